use Rattle.std.proofs.Common.{◌∙◌, ap, sym}
use Rattle.vms_cursors.specs.StepReadings.{group_in}
use Rattle.vms_cursors.proofs.ChangeGoes.{loaded-goes, loaded-stops}
use Rattle.vms_cursors.proofs.change_positions.after_loaded.Goals as goal

pub returns-in-Some-clause-goes : goal.returns-in-Some-clause-goes
returns-in-Some-clause-goes c = loaded-goes c.args.layout.now c.args.change.now c.args.step c.args.t c.in-Some.list
    (ap (λ n. group_in c.args.change.now.cpu.number n c.args.step) (sym c.group.ensures.value) ∙ sym c.in-Some.ensures)

pub returns-in-None-clause-stops : goal.returns-in-None-clause-stops
returns-in-None-clause-stops c = λ none. loaded-stops c.args.layout.now c.args.change.now c.args.step c.args.t
    (ap (λ n. group_in c.args.change.now.cpu.number n c.args.step) (sym c.group.ensures.value) ∙ sym c.in-None.ensures)
