-- A threshold may be set that might be set before others acted. Its word tells one more set than stood.
use Rattle.std.proofs.Common.{◌≡◌, ◌≢◌, ℕ, suc, ◌+◌, ◌∷◌, ◌&&◌, Bool, true, false, Option, Some, None, nat_eq, refl}
use Rattle.std.proofs.Common.{sym, ap, ◌∙◌, arith, if◌then◌else◌}
use Rattle.vms_calls.specs.Common.{CpuId, PlaceId, IsPlace, GoesOnWithout, owner_in, State, Facts, Step, SetT}
use Rattle.vms_calls.specs.Common.{threshold_at, threshold_sets_at, with_threshold, SetsThreshold, pages, History}
use Rattle.vms_calls.specs.Common.{state_after, threshold_after, role, effect}
use Rattle.vms_history.proofs.Common.{if-never}
use Rattle.vms_seats.specs.Common.{Pass, MayStep}
use Rattle.vms_core.specs.Pages.{IsLegal}
use Rattle.vms_core.proofs.Common.{SetsThreshold-goes_on, control-knows_later, threshold_at-newest, sets-newest}
use Rattle.vms_words.specs.declared.spots.Spot.{Spot}
use Rattle.vms_words.specs.declared.spots.Spot.TheVariants.{Value, System, Group, Threshold, Mark, Cpu, Acknowledgement}
use Rattle.vms_words.specs.Shown.{shown}
use Rattle.vms_words.specs.Common.{spot_word, threshold_word, IsSpot, place_in}
use Rattle.vms_words.specs.Spots.{blocks_of}
use Rattle.vms_words.proofs.SetSteps.{event, set-may, other-cell, same-cell}

-- whoever sets it, the state is the same
threshold-effect : (facts : Facts) (who : Option CpuId) (s : State) (c : CpuId) (g : PlaceId) (t : ℕ)
    → effect facts who (SetT c g t) s ≡ with_threshold s c.number g.number t
threshold-effect facts None s c g t = refl
threshold-effect facts (Some d) s c g t = refl

module _ (pass : Pass Facts Step) (c : CpuId) (g : PlaceId) (t number : ℕ)
    (sets : SetsThreshold pass.facts pass.seen (state_after pass.facts pass.seen) pass.number c g t)
    (counts : threshold_sets_at (state_after pass.facts pass.seen) c.number g.number + 1 ≡ number) where
  module _ (h : History) (goes : GoesOnWithout pages pass.facts h pass.seen pass.number)
      (legal : IsLegal pass.facts (event pass.number (SetT c g t) ∷ h)) where
    abbrev s : State
    s = state_after pass.facts h

    left : (other : Spot) → spot_word (with_threshold s c.number g.number t) other ≡ spot_word s other
        → spot_word (effect pass.facts (owner_in role h pass.number) (SetT c g t) s) other ≡ spot_word s other
    left other same =
        ap (λ x. spot_word x other) (threshold-effect pass.facts (owner_in role h pass.number) s c g t) ∙ same

    newest : (d f : ℕ) → IsPlace pass.facts.layout f
        → spot_word (state_after pass.facts (event pass.number (SetT c g t) ∷ h))
        (Threshold (record { number = d }) (record { number = f }))
        ≡ (if nat_eq c.number d && nat_eq g.number f
        then threshold_word t (suc (threshold_sets_at s d f))
        else threshold_word (threshold_at s d f) (threshold_sets_at s d f))
    newest d f place =
        ap (λ n. threshold_word n (threshold_sets_at (state_after pass.facts (event pass.number (SetT c g t) ∷ h)) d f))
        (threshold_at-newest pass.facts (event pass.number (SetT c g t)) h legal d f place)
        ∙ ap (threshold_word (threshold_after d f (SetT c g t) (threshold_at s d f)))
        (sets-newest pass.facts (event pass.number (SetT c g t)) h legal d f place)
        ∙ by (nat_eq c.number d && nat_eq g.number f)
      where
        by : (b : Bool)
            → threshold_word (if b then t else threshold_at s d f)
            (if b then suc (threshold_sets_at s d f) else threshold_sets_at s d f)
            ≡ (if b then threshold_word t (suc (threshold_sets_at s d f))
            else threshold_word (threshold_at s d f) (threshold_sets_at s d f))
        by true = refl
        by false = refl

    threshold-here : spot_word (state_after pass.facts (event pass.number (SetT c g t) ∷ h)) (Threshold c g)
        ≡ threshold_word t number
    threshold-here =
        let stood = (control-knows_later pass.facts h pass.seen pass.number goes sets.control).threshold_sets
        c.number g.number in
        newest c.number g.number sets.place
        ∙ ap (λ b. if b then threshold_word t (suc (threshold_sets_at s c.number g.number))
        else threshold_word (threshold_at s c.number g.number) (threshold_sets_at s c.number g.number))
        (same-cell c.number g.number)
        ∙ ap (threshold_word t) (omega (arith, stood, counts))

    threshold-others : (other : Spot) → IsSpot pass.facts.layout other → other ≢ Threshold c g
        → spot_word (state_after pass.facts (event pass.number (SetT c g t) ∷ h)) other ≡ spot_word s other
    threshold-others (Value k) known differs = left (Value k) refl
    threshold-others (System i) known differs = left (System i) refl
    threshold-others (Group d j) known differs = left (Group d j) refl
    threshold-others (Threshold d f) known differs =
        newest d.number f.number known.1
        ∙ if-never (nat_eq c.number d.number && nat_eq g.number f.number)
        (threshold_word t (suc (threshold_sets_at s d.number f.number))) (spot_word s (Threshold d f))
        (other-cell c d g f (λ cpu place. differs (λ i. Threshold (sym cpu i) (sym place i))))
    threshold-others (Mark f) known differs = left (Mark f) refl
    threshold-others (Cpu d) known differs = left (Cpu d) refl
    threshold-others (Acknowledgement d f) known differs = left (Acknowledgement d f) refl

  pub threshold-may : MayStep pages shown pass (place_in (blocks_of pass.facts.layout) (Threshold c g))
      (λ n. threshold_word t number) (λ n. SetT c g t)
  threshold-may =
      set-may pass (Threshold c g) (sets.cpu, sets.place) (SetT c g t) (threshold_word t number) refl
      (λ h goes. SetsThreshold-goes_on pass.facts h pass.seen pass.number c g t goes sets)
      (λ h legal goes. threshold-here h goes legal) (λ h legal goes. threshold-others h goes legal)
