-- An acknowledgement may be made, whatever others did since.
use Rattle.std.proofs.Common.{◌≡◌, ◌≢◌, ℕ, suc, ◌∷◌, ◌&&◌, Some, nat_eq, refl, sym, ap, ◌∙◌, if◌then◌else◌}
use Rattle.vms_calls.specs.Common.{CpuId, PlaceId, IsCpu, IsZone, GoesOnWithout, owner_in, State, Facts, Step, SetA}
use Rattle.vms_calls.specs.Common.{acknowledged_at, with_acknowledged, Acknowledges, loaded, took, has_put, pages}
use Rattle.vms_calls.specs.Common.{History, state_after, role, effect}
use Rattle.vms_history.proofs.Common.{if-never}
use Rattle.vms_seats.specs.Common.{Pass, MayStep}
use Rattle.vms_core.specs.Pages.{IsLegal}
use Rattle.vms_core.proofs.Common.{owner_in-goes_on, acknowledged_after, acknowledged_at-newest}
use Rattle.vms_words.specs.declared.spots.Spot.{Spot}
use Rattle.vms_words.specs.declared.spots.Spot.TheVariants.{Value, System, Group, Threshold, Mark, Cpu, Acknowledgement}
use Rattle.vms_words.specs.Shown.{shown}
use Rattle.vms_words.specs.Common.{spot_word, acknowledgement_word, IsSpot, place_in}
use Rattle.vms_words.specs.Spots.{blocks_of}
use Rattle.vms_words.proofs.SetSteps.{event, set-may, other-cell, same-cell}

module _ (pass : Pass Facts Step) (d : CpuId) (g : PlaceId) (a : ℕ)
    (acknowledges : Acknowledges pass.facts pass.seen pass.number g a)
    (owns : owner_in role pass.seen pass.number ≡ Some d) (cpu_known : IsCpu pass.facts.layout d.number) where
  module _ (h : History) (goes : GoesOnWithout pages pass.facts h pass.seen pass.number) where
    abbrev s : State
    s = state_after pass.facts h

    still : Acknowledges pass.facts h pass.number g a
    still = record {
      cpu = acknowledges.cpu;
      owns = record {
        owner = owner_in-goes_on pass.facts h pass.seen pass.number goes ∙ acknowledges.owns.owner;
        within = acknowledges.owns.within;
      };
      zone = acknowledges.zone;
      t = acknowledges.t;
      as_loaded = ap (loaded g.number) goes.own_same ∙ acknowledges.as_loaded;
      took_each = λ j j_in at. ap (took acknowledges.cpu g.number j) goes.own_same ∙ acknowledges.took_each j j_in at;
      put_nothing = ap (has_put pass.facts.layout g.number) goes.own_same ∙ acknowledges.put_nothing;
    }

    owner : owner_in role h pass.number ≡ Some d
    owner = owner_in-goes_on pass.facts h pass.seen pass.number goes ∙ owns

    -- what the step leaves of words other than acknowledgements
    left : (other : Spot) → spot_word (with_acknowledged s d.number g.number a) other ≡ spot_word s other
        → spot_word (effect pass.facts (owner_in role h pass.number) (SetA g a) s) other ≡ spot_word s other
    left other same = ap (λ who. spot_word (effect pass.facts who (SetA g a) s) other) owner ∙ same

    newest : IsLegal pass.facts (event pass.number (SetA g a) ∷ h) → (c f : ℕ) → IsZone pass.facts.layout f
        → acknowledged_at (state_after pass.facts (event pass.number (SetA g a) ∷ h)) c f
        ≡ (if nat_eq d.number c && nat_eq g.number f then Some a else acknowledged_at s c f)
    newest legal c f zone =
        acknowledged_at-newest pass.facts (event pass.number (SetA g a)) h legal c f zone
        ∙ ap (λ who. acknowledged_after who c f (SetA g a) (acknowledged_at s c f)) owner

    acknowledge-others : IsLegal pass.facts (event pass.number (SetA g a) ∷ h) → (other : Spot)
        → IsSpot pass.facts.layout other → other ≢ Acknowledgement d g
        → spot_word (state_after pass.facts (event pass.number (SetA g a) ∷ h)) other ≡ spot_word s other
    acknowledge-others legal (Value k) known differs = left (Value k) refl
    acknowledge-others legal (System i) known differs = left (System i) refl
    acknowledge-others legal (Group c j) known differs = left (Group c j) refl
    acknowledge-others legal (Threshold c f) known differs = left (Threshold c f) refl
    acknowledge-others legal (Mark f) known differs = left (Mark f) refl
    acknowledge-others legal (Cpu c) known differs = left (Cpu c) refl
    acknowledge-others legal (Acknowledgement c f) known differs =
        ap acknowledgement_word (newest legal c.number f.number known.1
        ∙ if-never (nat_eq d.number c.number && nat_eq g.number f.number) (Some a) (acknowledged_at s c.number f.number)
        (other-cell d c g f (λ cpu place. differs (λ i. Acknowledgement (sym cpu i) (sym place i)))))

  pub acknowledge-may : MayStep pages shown pass (place_in (blocks_of pass.facts.layout) (Acknowledgement d g))
      (λ n. suc a) (λ n. SetA g a)
  acknowledge-may =
      set-may pass (Acknowledgement d g) (cpu_known, acknowledges.zone) (SetA g a) (suc a) refl still
      (λ h legal goes. ap acknowledgement_word (newest h goes legal d.number g.number acknowledges.zone
      ∙ ap (λ b. if b then Some a else acknowledged_at (state_after pass.facts h) d.number g.number)
      (same-cell d.number g.number)))
      (λ h legal goes. acknowledge-others h goes legal)
