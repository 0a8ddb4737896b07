-- The numbers that single steps tell are small, and small numbers stay as they are when they are passed on.
use Rattle.std.proofs.Common.{◌≡◌, ℕ, ◌≤◌, ◌<◌, ◌^◌, ◌∷◌, ℤ, ◌+ℤ◌, ◌-ℤ◌, unsigned_abs, FitsSigned, w64, to_z, of_z, ap}
use Rattle.std.proofs.Common.{sym, ◌∙◌, subst, arith}
use Rattle.std.proofs.lemmas.Int.{ints, to_z-of_z}
use Rattle.vms_history.specs.Common.{CpuId, PcpuId}
use Rattle.vms_history.proofs.Common.{base_can_begin}
use Rattle.vms_pcpu_core.specs.declared.steps.PcpuFacts.{PcpuFacts}
use Rattle.vms_pcpu_core.specs.declared.steps.PcpuStep.{PcpuStep}
use Rattle.vms_pcpu_core.specs.declared.steps.PcpuStep.TheVariants.{LoadL, LoadC, TakeL}
use Rattle.vms_pcpu_core.specs.Common.{most_batch, percpu, History, IsLegal, most_number, event}
use Rattle.vms_pcpu_core.proofs.Common.{locals-bounded, step_number-small}
use Rattle.vms_seats.specs.Common.{Pass, MadeOne}

pub same_word : (x : ℤ) → unsigned_abs x < 2 ^ 63 → to_z w64 (of_z w64 x) ≡ x
same_word x small = let fits : FitsSigned w64 x = omega (arith, ints) in to_z-of_z w64 x fits

pub same_sum : (x y : ℤ) → unsigned_abs x < 2 ^ 62 → unsigned_abs y < 2 ^ 62
    → to_z w64 (of_z w64 (to_z w64 (of_z w64 x) +ℤ to_z w64 (of_z w64 y))) ≡ x +ℤ y
same_sum x y first second =
    ap (λ (z : ℤ). to_z w64 (of_z w64 (z +ℤ to_z w64 (of_z w64 y)))) (same_word x (omega arith))
    ∙ ap (λ (z : ℤ). to_z w64 (of_z w64 (x +ℤ z))) (same_word y (omega arith))
    ∙ same_word (x +ℤ y) (omega (arith, ints))

pub same_difference : (x y : ℤ) → unsigned_abs x < 2 ^ 62 → unsigned_abs y < 2 ^ 62
    → to_z w64 (of_z w64 (to_z w64 (of_z w64 x) -ℤ to_z w64 (of_z w64 y))) ≡ x -ℤ y
same_difference x y first second =
    ap (λ (z : ℤ). to_z w64 (of_z w64 (z -ℤ to_z w64 (of_z w64 y)))) (same_word x (omega arith))
    ∙ ap (λ (z : ℤ). to_z w64 (of_z w64 (x -ℤ z))) (same_word y (omega arith))
    ∙ same_word (x -ℤ y) (omega (arith, ints))

pub passed-small : (x v : ℤ) (most : ℕ) → x ≡ v → unsigned_abs v ≤ most → most < 2 ^ 63
    → unsigned_abs (to_z w64 (of_z w64 x)) ≤ most
passed-small x v most is small fits =
    subst (λ (y : ℤ). unsigned_abs (to_z w64 (of_z w64 y)) ≤ most) (sym is)
    (subst (λ (y : ℤ). unsigned_abs y ≤ most) (sym (same_word v (omega arith))) small)

module _ (new old : Pass PcpuFacts PcpuStep) (step : PcpuStep) (one : MadeOne percpu new old step) where
  -- the history that the step ended
  pub legal-then : IsLegal old.facts (event old.number step ∷ one.at.before)
  legal-then = subst (IsLegal old.facts) one.at.newest one.at.legal

module _ (new old : Pass PcpuFacts PcpuStep) (j : PcpuId) (v : ℤ) where
  pub count-small : MadeOne percpu new old (LoadC j v) → unsigned_abs v ≤ most_number
  count-small one =
      step_number-small old.facts (event old.number (LoadC j v)) one.at.before (legal-then new old (LoadC j v) one)

  pub load-small : (c : CpuId) → MadeOne percpu new old (LoadL j c v) → unsigned_abs v ≤ most_batch
  load-small c one =
      let h : History = one.at.before in
      let legal = legal-then new old (LoadL j c v) one in
      let within = (locals-bounded old.facts h legal.0).within c.number j.number legal.2.cpu legal.2.counter in
      let most = ((base_can_begin percpu old.facts h legal.0).counters j.number legal.2.counter).batch_most in
      subst (λ (x : ℤ). unsigned_abs x ≤ most_batch) legal.2.value (omega (arith, within, most))

  pub take-small : (c : CpuId) → MadeOne percpu new old (TakeL j c v) → unsigned_abs v ≤ most_batch
  take-small c one =
      let h : History = one.at.before in
      let legal = legal-then new old (TakeL j c v) one in
      let within = (locals-bounded old.facts h legal.0).within c.number j.number legal.2.cpu legal.2.counter in
      let most = ((base_can_begin percpu old.facts h legal.0).counters j.number legal.2.counter).batch_most in
      subst (λ (x : ℤ). unsigned_abs x ≤ most_batch) legal.2.value (omega (arith, within, most))
