-- After a test the pass carries nothing.
use Rattle.std.proofs.Common.{subst}
use Rattle.vms_world.specs.Common.{LeavesCaller, Shape, own}
use Rattle.vms_counters.proofs.Between.{between-left}
use Rattle.vms_counters.proofs.looks.watermark_ok.Goals as goal

pub returns-clause-between : goal.returns-clause-between
returns-clause-between g c =
    let shared = c.args.shared.now in
    let old = g.P.Caller.pass c.args.pass.now in
    let new = g.P.Caller.pass c.watermark_ok.new.pass in
    let made = c.watermark_ok.ensures.made in
    between-left shared.tables.pages new old made.0 made.2 c.requires
    (subst (λ (shape : Shape). LeavesCaller shape old.number made.0 (own old.seen old.number)) shared.same_layout
    (c.looks_leave_their_caller.ensures.test shared.header c.args.zone c.args.mark c.args.most old.number old.seen
    made.0 (_, made.1) _))
