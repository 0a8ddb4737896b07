-- The step of a list of numbers.
use Rattle.std.proofs.Common.{◌≡◌, ℤ, ℕ, Some, option_map, sym, ap, ◌∙◌, rules, w64, to_z, of_z}
use Rattle.std.specs.Prelude.{option_and_then}
use Rattle.vms_history.specs.Common.{Diffs}
use Rattle.vms_core.specs.declared.steps.Step.TheVariants as steps
use Rattle.vms_written_lines.specs.WideSteps.{small, step_of}
use Rattle.vms_written_lines.proofs.wide_steps.WideStep.narrow.Goals as goal

pub returns-in_ok-diffs_of-in-LoadD-clause-value :
    goal.returns-in_ok-diffs_of-in-LoadD-clause-value
returns-in_ok-diffs_of-in-LoadD-clause-value c =
    sym (ap step_of c.in-LoadD.is
    ∙ ap (option_map (λ (w : Diffs). steps.LoadD c.in-LoadD.cpu c.in-LoadD.group w))
    (sym c.in_ok-diffs_of-in-LoadD.ensures.value))

pub returns-in_ok-small-in-Put-clause-value : goal.returns-in_ok-small-in-Put-clause-value
returns-in_ok-small-in-Put-clause-value c =
    let k = c.in-Put.counter in
    let delta : ℤ = c.in-Put.delta in
    let how = c.in-Put.mode in
    let list = c.in_ok-diffs_of-in-Put.field-0 in
    let kept : to_z w64 (of_z w64 c.in-Put.delta) ≡ c.in-Put.delta = search rules in
    ap (λ (z : ℤ). Some (steps.Put k list c.in_ok-small-in-Put.field-0 z how)) kept
    ∙ sym (ap step_of c.in-Put.is
    ∙ ap (option_and_then (λ (w : Diffs). option_map (λ (t : ℕ). steps.Put k w t delta how) (small c.in-Put.threshold)))
    (sym c.in_ok-diffs_of-in-Put.ensures.value)
    ∙ ap (option_map (λ (t : ℕ). steps.Put k list t delta how)) (sym c.in_ok-small-in-Put.ensures.value))

pub returns-in_ok-diffs_of-in-Miss-clause-value : goal.returns-in_ok-diffs_of-in-Miss-clause-value
returns-in_ok-diffs_of-in-Miss-clause-value c =
    sym (ap step_of c.in-Miss.is
    ∙ ap (option_map (λ (w : Diffs). steps.Miss c.in-Miss.group w)) (sym c.in_ok-diffs_of-in-Miss.ensures.value))

pub returns-in_ok-diffs_of-in-Take-clause-value : goal.returns-in_ok-diffs_of-in-Take-clause-value
returns-in_ok-diffs_of-in-Take-clause-value c =
    sym (ap step_of c.in-Take.is
    ∙ ap (option_map (λ (w : Diffs). steps.Take c.in-Take.cpu c.in-Take.group w))
    (sym c.in_ok-diffs_of-in-Take.ensures.value))
