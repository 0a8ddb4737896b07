-- After a look the pass carries nothing.
use Rattle.vms_counters.proofs.Between.{between-left}
use Rattle.vms_counters.proofs.looks.system_value.Goals as goal

pub returns-clause-between : goal.returns-clause-between
returns-clause-between g c =
    let old = g.P.Caller.pass c.args.pass.now in
    let new = g.P.Caller.pass c.system_value.new.pass in
    let made = c.system_value.ensures.made in
    between-left c.args.shared.now.tables.pages new old made.0 made.2 c.requires
    (c.looks_leave_their_caller.ensures.system_value c.args.shared.now.tables.pages.facts.layout c.args.item old.number
    old.seen made.0 (_, made.1) _)
