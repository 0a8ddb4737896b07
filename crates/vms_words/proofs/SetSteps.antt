-- A step that puts a number into a word may be made where the word then shows what the step set, and the others show
-- what they showed.
use Rattle.std.proofs.Common.{◌≡◌, ◌≢◌, ℕ, ◌∷◌, ◌&&◌, true, nat_eq, refl, eq-eqb, eqb-true}
use Rattle.std.proofs.lemmas.Bool.{and_parts}
use Rattle.vms_calls.specs.Common.{CpuId, PlaceId, Event, Works, GoesOnWithout, Facts, Step, Meets, pages, History}
use Rattle.vms_calls.specs.Common.{state_after, role}
use Rattle.vms_seats.specs.Common.{Pass, MayStep}
use Rattle.vms_core.specs.Pages.{IsLegal}
use Rattle.vms_words.specs.declared.spots.Spot.{Spot}
use Rattle.vms_words.specs.Shown.{shown}
use Rattle.vms_words.specs.Common.{spot_word, IsSpot, place_in}
use Rattle.vms_words.specs.Spots.{blocks_of}
use Rattle.vms_words.proofs.LoadSteps.{acts}
use Rattle.vms_words.proofs.ShownWords.{shown-set}

-- the event of a step
abbrev pub event : ℕ → Step → Event Step
event p step = record { caller = p; step = step }

module _ (pass : Pass Facts Step) (spot : Spot) (known : IsSpot pass.facts.layout spot) (step : Step) (after : ℕ)
    (works : role step ≡ Works)
    (meets : (h : History) → GoesOnWithout pages pass.facts h pass.seen pass.number
    → Meets pass.facts h (state_after pass.facts h) pass.number step)
    (here : (h : History) → IsLegal pass.facts (event pass.number step ∷ h)
    → GoesOnWithout pages pass.facts h pass.seen pass.number
    → spot_word (state_after pass.facts (event pass.number step ∷ h)) spot ≡ after)
    (others : (h : History) → IsLegal pass.facts (event pass.number step ∷ h)
    → GoesOnWithout pages pass.facts h pass.seen pass.number
    → (other : Spot) → IsSpot pass.facts.layout other → other ≢ spot
    → spot_word (state_after pass.facts (event pass.number step ∷ h)) other
    ≡ spot_word (state_after pass.facts h) other)
  where
    pub set-may : MayStep pages shown pass (place_in (blocks_of pass.facts.layout) spot) (λ n. after) (λ n. step)
    set-may h found goes fits stands =
        let legal : IsLegal pass.facts (event pass.number step ∷ h) =
        (goes.legal, acts pass.facts h pass.seen pass.number goes step works, meets h goes) in
        record {
          legal = legal;
          shows = shown-set pass.facts (state_after pass.facts h)
              (state_after pass.facts (event pass.number step ∷ h)) spot
              known after (here h legal goes) (others h legal goes);
        }

-- a CPU and a place of which one is another
pub other-cell : (c d : CpuId) (g f : PlaceId) → ((c ≡ d) → (g ≡ f) → ⊥)
    → (nat_eq c.number d.number && nat_eq g.number f.number) ≡ true → ⊥
other-cell c d g f differ is =
    let parts = and_parts (nat_eq c.number d.number) (nat_eq g.number f.number) is in
    differ (λ i. record { number = eqb-true c.number d.number parts.0 i })
    (λ i. record { number = eqb-true g.number f.number parts.1 i })

pub same-cell : (c g : ℕ) → (nat_eq c c && nat_eq g g) ≡ true
same-cell c g = rw (eq-eqb c c refl, eq-eqb g g refl) refl
