-- A mark may be set that might be set before others acted. Its word tells one more set than stood.
use Rattle.std.proofs.Common.{◌≡◌, ◌≢◌, ℕ, suc, ◌+◌, ◌∷◌, Bool, true, false, Option, Some, None, nat_eq, refl, sym, ap}
use Rattle.std.proofs.Common.{◌∙◌, arith, if◌then◌else◌, eq-eqb, eqb-true}
use Rattle.vms_calls.specs.Common.{CpuId, PlaceId, GoesOnWithout, owner_in, State, Facts, Step, SetM, mark_at}
use Rattle.vms_calls.specs.Common.{mark_sets_at, acknowledged_at, with_mark, SetsMark, pages, History, state_after}
use Rattle.vms_calls.specs.Common.{role, effect}
use Rattle.vms_history.proofs.Common.{if-never}
use Rattle.vms_seats.specs.Common.{Pass, MayStep}
use Rattle.vms_core.specs.Pages.{IsLegal}
use Rattle.vms_core.proofs.Common.{SetsMark-goes_on, control-knows_later, mark_after, acknowledged_after}
use Rattle.vms_core.proofs.Common.{mark_at-newest, mark_sets_at-newest, acknowledged_at-newest}
use Rattle.vms_words.specs.declared.spots.Spot.{Spot}
use Rattle.vms_words.specs.declared.spots.Spot.TheVariants.{Value, System, Group, Threshold, Mark, Cpu, Acknowledgement}
use Rattle.vms_words.specs.Shown.{shown}
use Rattle.vms_words.specs.Common.{spot_word, packed_mark, acknowledgement_word, IsSpot, place_in}
use Rattle.vms_words.specs.Spots.{blocks_of}
use Rattle.vms_words.proofs.SetSteps.{event, set-may}

-- whoever sets it, the state is the same
mark-effect : (facts : Facts) (who : Option CpuId) (s : State) (g : PlaceId) (m : ℕ)
    → effect facts who (SetM g m) s ≡ with_mark s g.number m
mark-effect facts None s g m = refl
mark-effect facts (Some d) s g m = refl

module _ (pass : Pass Facts Step) (g : PlaceId) (m number : ℕ)
    (sets : SetsMark pass.facts pass.seen pass.number g m)
    (counts : mark_sets_at (state_after pass.facts pass.seen) g.number + 1 ≡ number) where
  module _ (h : History) (goes : GoesOnWithout pages pass.facts h pass.seen pass.number)
      (legal : IsLegal pass.facts (event pass.number (SetM g m) ∷ h)) where
    abbrev s : State
    s = state_after pass.facts h

    left : (other : Spot) → spot_word (with_mark s g.number m) other ≡ spot_word s other
        → spot_word (effect pass.facts (owner_in role h pass.number) (SetM g m) s) other ≡ spot_word s other
    left other same =
        ap (λ x. spot_word x other) (mark-effect pass.facts (owner_in role h pass.number) s g m) ∙ same

    newest : (f : ℕ)
        → spot_word (state_after pass.facts (event pass.number (SetM g m) ∷ h)) (Mark (record { number = f }))
        ≡ (if nat_eq g.number f then packed_mark m (suc (mark_sets_at s f))
        else packed_mark (mark_at s f) (mark_sets_at s f))
    newest f =
        ap (λ n. packed_mark n (mark_sets_at (state_after pass.facts (event pass.number (SetM g m) ∷ h)) f))
        (mark_at-newest pass.facts (event pass.number (SetM g m)) h legal f)
        ∙ ap (packed_mark (mark_after f (SetM g m) (mark_at s f)))
        (mark_sets_at-newest pass.facts (event pass.number (SetM g m)) h legal f)
        ∙ by (nat_eq g.number f)
      where
        by : (b : Bool)
            → packed_mark (if b then m else mark_at s f) (if b then suc (mark_sets_at s f) else mark_sets_at s f)
            ≡ (if b then packed_mark m (suc (mark_sets_at s f)) else packed_mark (mark_at s f) (mark_sets_at s f))
        by true = refl
        by false = refl

    mark-here : spot_word (state_after pass.facts (event pass.number (SetM g m) ∷ h)) (Mark g) ≡ packed_mark m number
    mark-here =
        let stood = (control-knows_later pass.facts h pass.seen pass.number goes sets.control).mark_sets g.number in
        newest g.number
        ∙ ap (λ b. if b then packed_mark m (suc (mark_sets_at s g.number))
        else packed_mark (mark_at s g.number) (mark_sets_at s g.number)) (eq-eqb g.number g.number refl)
        ∙ ap (packed_mark m) (omega (arith, stood, counts))

    mark-others : (other : Spot) → IsSpot pass.facts.layout other → other ≢ Mark g
        → spot_word (state_after pass.facts (event pass.number (SetM g m) ∷ h)) other ≡ spot_word s other
    mark-others (Value k) known differs = left (Value k) refl
    mark-others (System i) known differs = left (System i) refl
    mark-others (Group d j) known differs = left (Group d j) refl
    mark-others (Threshold d f) known differs = left (Threshold d f) refl
    mark-others (Mark f) known differs =
        newest f.number
        ∙ if-never (nat_eq g.number f.number) (packed_mark m (suc (mark_sets_at s f.number))) (spot_word s (Mark f))
        (λ here. differs (λ i. Mark (record { number = sym (eqb-true g.number f.number here) i })))
    mark-others (Cpu d) known differs = left (Cpu d) refl
    mark-others (Acknowledgement d f) known differs =
        ap acknowledgement_word
        (acknowledged_at-newest pass.facts (event pass.number (SetM g m)) h legal d.number f.number known.1
        ∙ acknowledged-kept (owner_in role h pass.number) d.number f.number (acknowledged_at s d.number f.number))
      where
        acknowledged-kept : (who : Option CpuId) (e f : ℕ) (before : Option ℕ)
            → acknowledged_after who e f (SetM g m) before ≡ before
        acknowledged-kept None e f before = refl
        acknowledged-kept (Some o) e f before = refl

  pub mark-may : MayStep pages shown pass (place_in (blocks_of pass.facts.layout) (Mark g))
      (λ n. packed_mark m number) (λ n. SetM g m)
  mark-may =
      set-may pass (Mark g) sets.zone (SetM g m) (packed_mark m number) refl
      (λ h goes. SetsMark-goes_on pass.facts h pass.seen pass.number g m goes sets)
      (λ h legal goes. mark-here h goes legal) (λ h legal goes. mark-others h goes legal)
