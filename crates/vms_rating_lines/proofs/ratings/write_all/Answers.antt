-- The next zone is visited, the next node gets its thresholds, and the parts come one after another.
use Rattle.std.proofs.Common.{◌≡◌, ℕ, ◌+◌, ◌-◌, Bool, false, ◌++◌, length, sym, ap, ◌∙◌, arith, add-one}
use Rattle.vms_text.proofs.Common.{Begins-after, OnErr-true}
use Rattle.vms_calls.specs.Common.{in_turn, numbers_below, place_count, state_steps}
use Rattle.vms_rating_lines.specs.Lines.{step_lines}
use Rattle.vms_rating_lines.specs.ToldSteps.{places_told, visits_told}
use Rattle.vms_rating_lines.proofs.Begun.{Begins-more, Begins-then}
use Rattle.vms_rating_lines.proofs.StepLines.{lines-both, lines-end}
use Rattle.vms_rating_lines.proofs.VisitLines.{placed-next, visited-next}
use Rattle.vms_rating_lines.proofs.ratings.write_all.Goals as goal

pub loop-zone-preserved : goal.loop-zone-preserved
loop-zone-preserved c =
    let n = c.loop-zone.zone in
    visited-next c.args.pages.now c.args.found.now (λ m. false) c.args.caller (numbers_below n) (numbers_below (n + 1))
    n c.write_states.new.out.items c.loop-zone.out.items c.write_visit.new.out.items (ap numbers_below (add-one n))
    c.loop-zone.invariant c.in_ok-write_visit.ensures.ok

pub loop-number-preserved : goal.loop-number-preserved
loop-number-preserved c =
    let shape = c.args.layout.now in
    record {
      begun = Begins-more _ _ _ _ c.loop-number.invariant.begun c.in_ok-write_thresholds.ensures.ok;
      left = placed-next c.args.caller c.args.pages.now c.loop-number.number (place_count shape)
          c.loop-number.out.items c.write_thresholds.new.out.items _
          (omega (arith, c.loop-number-test.true, c.places-number-end.ensures.value))
          c.in_ok-write_thresholds.ensures.ok c.loop-number.invariant.left;
    }

pub returns-clause-ok : goal.returns-clause-ok
returns-clause-ok c =
    let p = c.args.caller in
    let shape = c.args.layout.now in
    let s = c.args.pages.now in
    let found = c.args.found.now in
    let spares : ℕ → Bool = λ m. false in
    let loads = in_turn state_steps 0 s.cpu in
    let visits = visits_told s found spares (numbers_below (length shape.zones)) in
    let end : c.loop-zone.zone ≡ length shape.zones = omega (
      arith,
      c.loop-zone-test.false,
      c.loop-zone.auto.«zone-end»,
      ap length c.zones-zone-end.ensures.value,
    ) in
    let none : length shape.zones + length shape.nodes - c.loop-number.number ≡ 0 =
    omega (arith, c.loop-number-test.false, c.places-number-end.ensures.value) in
    let visited = lines-both p loads visits c.args.out.now.items c.write_states.new.out.items c.loop-zone.out.items
    c.in_ok-write_states.ensures.ok
    (c.loop-zone.invariant ∙ ap (λ (m : ℕ). c.write_states.new.out.items
    ++ step_lines p (visits_told s found spares (numbers_below m))) end) in
    lines-both p (loads ++ visits) (places_told s (length shape.zones) (length shape.nodes)) c.args.out.now.items
    c.loop-zone.out.items c.loop-number.out.items visited
    (lines-end p _ c.loop-number.out.items
    (ap (λ (m : ℕ). c.loop-number.out.items ++ step_lines p (places_told s c.loop-number.number m)) (sym none)
    ∙ c.loop-number.invariant.left))

pub returns-in_err-write_visit-clause-err : goal.returns-in_err-write_visit-clause-err
returns-in_err-write_visit-clause-err c =
    OnErr-true c.from_residual-in_err-write_visit.result _
    (Begins-after _ _ _ _ c.in_ok-write_states.ensures.ok
    (Begins-after _ _ _ _ c.loop-zone.invariant c.in_err-write_visit.ensures.err))

pub returns-in_err-write_thresholds-clause-err : goal.returns-in_err-write_thresholds-clause-err
returns-in_err-write_thresholds-clause-err c =
    OnErr-true c.from_residual-in_err-write_thresholds.result _
    (Begins-after _ _ _ _ c.in_ok-write_states.ensures.ok
    (Begins-after _ _ _ _ c.loop-zone.invariant
    (Begins-then _ _ _ c.loop-number.invariant.begun c.in_err-write_thresholds.ensures.err)))
