-- A pass carries nothing between its calls.
use Rattle.std.proofs.Common.{◌≡◌, ℕ, zero, suc, Bool, true, false, nat_eq, if◌then◌else◌, List, [], ◌∷◌, ℤ, pos, neg_ℤ}
use Rattle.std.proofs.Common.{◌+ℤ◌, inl, inr, ap, ◌∙◌, arith}
use Rattle.std.proofs.lemmas.Int.{ints}
use Rattle.vms_history.specs.Common.{CpuId, own}
use Rattle.vms_history.proofs.Common.{zero_or_not}
use Rattle.vms_event_core.specs.declared.steps.EventFacts.{EventFacts}
use Rattle.vms_event_core.specs.declared.steps.EventStep.{EventStep}
use Rattle.vms_event_core.specs.Common.{moves, CarryAsBefore, events, carried, CarriesNothing}
use Rattle.vms_event_core.proofs.Common.{beginnings-kept}
use Rattle.vms_event.specs.Common.{IsIdleControl, MovesNothing, IsCpuPass}
use Rattle.vms_seats.specs.Common.{Pass, Made, MadeOne}
use Rattle.vms_seats.proofs.Common.{calls-live}

-- the control pass, after steps that leave it carrying what it carried before
control-after : (new old : Pass EventFacts EventStep) (steps : List EventStep) → IsIdleControl old → CarryAsBefore steps
    → Made events new old steps → IsIdleControl new
control-after new old steps control same made = record {
  live = calls-live events new old steps control.live made;
  owns_none = made.cpu ∙ control.owns_none;
  carries = λ k k_in. ap (carried k) (ap (own new.seen) made.number ∙ made.made.made)
      ∙ same old.number k (own old.seen old.number) ∙ control.carries k k_in;
}

pub control-left : (new old : Pass EventFacts EventStep) (step : EventStep) → IsIdleControl old → MovesNothing step
    → MadeOne events new old step → IsIdleControl new
control-left new old step control nothing one =
    control-after new old (step ∷ []) control (λ p k h. omega (arith, ints, nothing k)) one.all

moves-carry : (from into : CpuId) (k v : ℕ) → CarryAsBefore (moves from into k v)
moves-carry from into k zero p l h = by (nat_eq k l) (carried l h)
  where
    by : (b : Bool) (before : ℤ) → (if b then pos 0 else pos 0) +ℤ before ≡ before
    by true before = omega (arith, ints)
    by false before = omega (arith, ints)
moves-carry from into k (suc v) p l h = by (nat_eq k l) (carried l h)
  where
    by : (b : Bool) (before : ℤ)
        → (if b then neg_ℤ (pos (suc v)) else pos 0) +ℤ ((if b then pos (suc v) else pos 0) +ℤ before) ≡ before
    by true before = omega (arith, ints)
    by false before = omega (arith, ints)

-- the control pass, after it has moved a word
pub control-moved : (new old : Pass EventFacts EventStep) (from into : CpuId) (k v : ℕ) → IsIdleControl old
    → Made events new old (moves from into k v) → IsIdleControl new
control-moved new old from into k v control made =
    control-after new old (moves from into k v) control (moves-carry from into k v) made

-- a pass that owns a CPU never carries anything
pub owner-carries_nothing : (pass : Pass EventFacts EventStep) (cpu : CpuId) (volume : List ℕ)
    → IsCpuPass pass cpu volume → CarriesNothing (own pass.seen pass.number)
owner-carries_nothing pass cpu volume mine k k_in = elim (zero_or_not (carried k (own pass.seen pass.number))) [
  | inl none ↦ none
  | inr some ↦
      let laws = beginnings-kept pass.facts [] pass.seen mine.live.legal in
      let control = (laws.carriers pass.number k k_in some).control in
      let owner = mine.live.owner ∙ mine.owns in
      absurd (cc (control, owner))
]
