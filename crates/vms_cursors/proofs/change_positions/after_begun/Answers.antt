use Rattle.std.proofs.Common.{◌∙◌, ap, sym}
use Rattle.vms_cursors.specs.StepReadings.{threshold_in}
use Rattle.vms_cursors.proofs.ChangeGoes.{begun-goes, begun-stops}
use Rattle.vms_cursors.proofs.change_positions.after_begun.Goals as goal

pub returns-in-Some-clause-goes : goal.returns-in-Some-clause-goes
returns-in-Some-clause-goes c = begun-goes c.args.layout.now c.args.change.now c.args.step c.in-Some.t
    (ap (λ n. threshold_in n c.args.step) (sym c.place_of.ensures.value) ∙ sym c.in-Some.ensures)

pub returns-in-None-clause-stops : goal.returns-in-None-clause-stops
returns-in-None-clause-stops c = λ none. begun-stops c.args.layout.now c.args.change.now c.args.step
    (ap (λ n. threshold_in n c.args.step) (sym c.place_of.ensures.value) ∙ sym c.in-None.ensures)
