-- For other crates too: in a legal history of percpu counters a caller that holds no lock is idle.
use Rattle.std.proofs.Common.{◌≡◌, ℕ, ◌≤◌, nat_eq, Bool, true, false, ℤ, pos, ◌+ℤ◌, [], ◌∷◌, ap, ◌∙◌, refl, arith}
use Rattle.std.proofs.Common.{if◌then◌else◌, ⊎_elim}
use Rattle.std.proofs.lemmas.Bool.{cases_lt}
use Rattle.std.proofs.lemmas.Bool.Decides.{nat_tests}
use Rattle.vms_world.specs.Common.{own, PcpuFacts, PcpuStep, AddC, TakeL, Unlock, Won, Meets, HoldsNoLock}
use Rattle.vms_world.specs.Common.{carried_after, holds_lock, holds_lock_after, IsIdle, LockedState}
use Rattle.vms_history.proofs.Common.{own-fact}
use Rattle.vms_pcpu_core.specs.Histories.{History, IsLegal, state_after}
use Rattle.vms_pcpu_core.specs.Own.{carried}
use Rattle.vms_pcpu_core.specs.States.{counters_of}
use Rattle.vms_pcpu_core.proofs.Common.{holder-one}

-- no step concerns a counter that the base hasn't
module _ (facts : PcpuFacts) (j : ℕ) (past : counters_of facts.base ≤ j) where
  holds-step : (h : History) (s : LockedState) (p : ℕ) (step : PcpuStep) (b : Bool) → Meets facts h s p step → b ≡ false
      → holds_lock_after j step b ≡ false
  holds-step h s p (Won i) b meets before =
      let within = meets.counter in
      let other : nat_eq i.number j ≡ false = grind (arith, nat_tests) in
      ap (λ t. if t then true else b) other ∙ before
  holds-step h s p (Unlock i) b meets before =
      let within = meets.counter in
      let other : nat_eq i.number j ≡ false = grind (arith, nat_tests) in
      ap (λ t. if t then false else b) other ∙ before
  holds-step h s p _ b meets before = before

  carries-step : (h : History) (s : LockedState) (p : ℕ) (step : PcpuStep) (z : ℤ) → Meets facts h s p step
      → z ≡ pos 0 → carried_after j step z ≡ pos 0
  carries-step h s p (TakeL i c v) z meets before =
      let within = meets.counter in
      let other : nat_eq i.number j ≡ false = grind (arith, nat_tests) in
      ap (λ t. if t then z +ℤ v else z) other ∙ before
  carries-step h s p (AddC i a) z meets before =
      let within = meets.counter in
      let other : nat_eq i.number j ≡ false = grind (arith, nat_tests) in
      ap (λ t. if t then pos 0 else z) other ∙ before
  carries-step h s p _ z meets before = before

  holds-past : (h : History) (p : ℕ) → IsLegal facts h → holds_lock j (own h p) ≡ false
  holds-past [] p legal = refl
  holds-past (e ∷ h) p legal = own-fact (holds_lock j) e h p ∙ by (nat_eq e.caller p) (holds-past h p legal.0)
    where
      by : (b : Bool) → holds_lock j (own h p) ≡ false
          → (if b then holds_lock j (e ∷ own h p) else holds_lock j (own h p)) ≡ false
      by true before = holds-step h (state_after facts h) e.caller e.step (holds_lock j (own h p)) legal.2 before
      by false before = before

  carries-past : (h : History) (p : ℕ) → IsLegal facts h → carried j (own h p) ≡ pos 0
  carries-past [] p legal = refl
  carries-past (e ∷ h) p legal = own-fact (carried j) e h p ∙ by (nat_eq e.caller p) (carries-past h p legal.0)
    where
      by : (b : Bool) → carried j (own h p) ≡ pos 0
          → (if b then carried j (e ∷ own h p) else carried j (own h p)) ≡ pos 0
      by true before = carries-step h (state_after facts h) e.caller e.step (carried j (own h p)) legal.2 before
      by false before = before

pub IsIdle-legal : (facts : PcpuFacts) (h : History) (p : ℕ) → IsLegal facts h → HoldsNoLock facts (own h p)
    → IsIdle (own h p)
IsIdle-legal facts h p legal free = record {
  no_lock = λ j. ⊎_elim (λ inside. free j inside) (λ past. holds-past facts j past h p legal)
      (cases_lt j (counters_of facts.base));
  nothing_carried = λ j. ⊎_elim (λ inside. (holder-one facts h legal j inside).others p (free j inside))
      (λ past. carries-past facts j past h p legal) (cases_lt j (counters_of facts.base));
}
