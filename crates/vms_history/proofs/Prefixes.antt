-- For other crates too: what a legal history says of its newest event and of its beginnings, and what every step keeps.
use Rattle.std.proofs.Common.{◌≡◌, ℕ, nat_eq, if◌then◌else◌, Bool, true, false, List, [], ◌∷◌, ◌++◌, Option, refl}
use Rattle.std.proofs.Common.{subst, eqb-true}
use Rattle.vms_base.specs.declared.ids.CpuId.{CpuId}
use Rattle.vms_history.specs.declared.events.Event.{Event}
use Rattle.vms_history.specs.Common.{own, owner_in, Machine, IsLegal, Acts, state_after}

module _ {F K S : Type 0} (machine : Machine F K S) (facts : F) where
  pub legal_before : (e : Event K) (h : List (Event K)) → IsLegal machine facts (e ∷ h) → IsLegal machine facts h
  legal_before e h legal = legal.0

  pub acts_of : (e : Event K) (h : List (Event K)) → IsLegal machine facts (e ∷ h)
      → Acts machine facts h e.caller (machine.role e.step)
  acts_of e h legal = legal.1

  pub meets_of : (e : Event K) (h : List (Event K)) → IsLegal machine facts (e ∷ h)
      → machine.Meets facts h (state_after machine facts h) e.caller e.step
  meets_of e h legal = legal.2

  pub prefix_is_legal : (more h : List (Event K)) → IsLegal machine facts (more ++ h) → IsLegal machine facts h
  prefix_is_legal [] h legal = legal
  prefix_is_legal (e ∷ more) h legal = prefix_is_legal more h (legal_before e (more ++ h) legal)

  pub base_can_begin : (h : List (Event K)) → IsLegal machine facts h → machine.CanBegin facts
  base_can_begin [] legal = legal
  base_can_begin (e ∷ h) legal = base_can_begin h (legal_before e h legal)

  -- what holds of the base, and after every step if it held before, holds after every history
  pub state_after-keeps : (Holds : S → Type 0) → Holds (machine.base facts)
      → ((who : Option CpuId) (step : K) (s : S) → Holds s → Holds (machine.effect facts who step s))
      → (h : List (Event K)) → Holds (state_after machine facts h)
  state_after-keeps Holds base step [] = base
  state_after-keeps Holds base step (e ∷ h) =
      step (owner_in machine.role h e.caller) e.step (state_after machine facts h) (state_after-keeps Holds base step h)

  -- what holds of no events, and of a caller's own after each that it made if it held before, holds of every caller's
  -- own
  pub own-keeps : (Holds : List (Event K) → Type 0) → Holds []
      → ((e : Event K) (h : List (Event K)) → IsLegal machine facts (e ∷ h) → Holds (own h e.caller)
      → Holds (e ∷ own h e.caller))
      → (h : List (Event K)) → IsLegal machine facts h → (p : ℕ) → Holds (own h p)
  own-keeps Holds none step [] legal p = none
  own-keeps Holds none step (e ∷ h) legal p =
      by (nat_eq e.caller p) refl (own-keeps Holds none step h (legal_before e h legal) p)
    where
      by : (b : Bool) → nat_eq e.caller p ≡ b → Holds (own h p) → Holds (if b then e ∷ own h p else own h p)
      by true mine before =
          subst (λ q. Holds (own h q) → Holds (e ∷ own h q)) (eqb-true e.caller p mine) (step e h legal) before
      by false others before = before
