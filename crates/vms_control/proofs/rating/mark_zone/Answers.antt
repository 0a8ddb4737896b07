-- The mark was set once.
use Rattle.vms_control.proofs.PassCalls.{step-at}
use Rattle.vms_control.proofs.StepCounts.{set-mark}
use Rattle.vms_calls.specs.Common.{SetM}
use Rattle.vms_control.proofs.rating.mark_zone.Goals as goal

pub returns-then-mark-found-clause-sets : goal.returns-then-mark-found-clause-sets
returns-then-mark-found-clause-sets c =
    set-mark c.args.table.now.facts c.set_mark.new.pass.seen c.args.pass.now.seen c.args.pass.now.number c.args.zone
    c.args.mark
    (step-at c.args.table.now c.set_mark.new.pass c.args.pass.now (SetM c.args.zone c.args.mark) c.requires.table
    c.set_mark.ensures)
    c.requires.control

pub set_mark-requires-clause-sets : goal.set_mark-requires-clause-sets
set_mark-requires-clause-sets c = c.requires.sets c.if-mark-found.true
