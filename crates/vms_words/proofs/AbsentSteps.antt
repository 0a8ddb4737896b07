-- A dead CPU may be made absent that might be made so before others acted.
use Rattle.std.proofs.Common.{◌≡◌, ◌≢◌, ◌∷◌, Option, Some, None, nat_eq, refl, sym, ap, ◌∙◌, if◌then◌else◌, eq-eqb}
use Rattle.std.proofs.Common.{eqb-true}
use Rattle.vms_calls.specs.Common.{CpuId, Online, Dead, Absent, GoesOnWithout, owner_in, State, Facts, Step, SetO}
use Rattle.vms_calls.specs.Common.{threshold_at, threshold_sets_at, cpu_at, with_cpu, SetsAbsent, pages, History}
use Rattle.vms_calls.specs.Common.{state_after, role, effect}
use Rattle.vms_history.proofs.Common.{if-never}
use Rattle.vms_seats.specs.Common.{Pass, MayStep}
use Rattle.vms_core.specs.Pages.{IsLegal}
use Rattle.vms_core.proofs.Common.{owner_in-goes_on, control-knows_later, threshold_at-newest, sets-newest}
use Rattle.vms_core.proofs.Common.{cpu_at-newest}
use Rattle.vms_words.specs.declared.spots.Spot.{Spot}
use Rattle.vms_words.specs.declared.spots.Spot.TheVariants.{Value, System, Group, Threshold, Mark, Cpu, Acknowledgement}
use Rattle.vms_words.specs.Shown.{shown}
use Rattle.vms_words.specs.Common.{spot_word, threshold_word, cpu_word, IsSpot, place_in}
use Rattle.vms_words.specs.Spots.{blocks_of}
use Rattle.vms_words.proofs.DeadZeros.{zeros-stand}
use Rattle.vms_words.proofs.SetSteps.{event, set-may}

-- whoever makes it so, the state is the same
absent-effect : (facts : Facts) (who : Option CpuId) (s : State) (c : CpuId)
    → effect facts who (SetO c) s ≡ with_cpu s c.number Absent
absent-effect facts None s c = refl
absent-effect facts (Some d) s c = refl

module _ (pass : Pass Facts Step) (c : CpuId)
    (sets : SetsAbsent pass.facts pass.seen (state_after pass.facts pass.seen) pass.number c) where
  module _ (h : History) (goes : GoesOnWithout pages pass.facts h pass.seen pass.number) where
    abbrev s : State
    s = state_after pass.facts h

    offline : Dead ≢ Online
    offline is = absurd cc

    still : SetsAbsent pass.facts h s pass.number c
    still = record {
      control = owner_in-goes_on pass.facts h pass.seen pass.number goes ∙ sets.control;
      cpu = sets.cpu;
      dead = (control-knows_later pass.facts h pass.seen pass.number goes sets.control).cpus c.number ∙ sets.dead;
      zeros = zeros-stand pass.facts pass.seen c.number (λ online. offline (sym sets.dead ∙ online)) h goes.legal
          goes.extends sets.zeros;
    }

    left : (other : Spot) → spot_word (with_cpu s c.number Absent) other ≡ spot_word s other
        → spot_word (effect pass.facts (owner_in role h pass.number) (SetO c) s) other ≡ spot_word s other
    left other same =
        ap (λ x. spot_word x other) (absent-effect pass.facts (owner_in role h pass.number) s c) ∙ same

    absent-others : IsLegal pass.facts (event pass.number (SetO c) ∷ h) → (other : Spot)
        → IsSpot pass.facts.layout other → other ≢ Cpu c
        → spot_word (state_after pass.facts (event pass.number (SetO c) ∷ h)) other ≡ spot_word s other
    absent-others legal (Value k) known differs = left (Value k) refl
    absent-others legal (System i) known differs = left (System i) refl
    absent-others legal (Group d j) known differs = left (Group d j) refl
    absent-others legal (Threshold d f) known differs =
        ap (λ n. threshold_word n
        (threshold_sets_at (state_after pass.facts (event pass.number (SetO c) ∷ h)) d.number f.number))
        (threshold_at-newest pass.facts (event pass.number (SetO c)) h legal d.number f.number known.1)
        ∙ ap (threshold_word (threshold_at s d.number f.number))
        (sets-newest pass.facts (event pass.number (SetO c)) h legal d.number f.number known.1)
    absent-others legal (Mark f) known differs = left (Mark f) refl
    absent-others legal (Cpu d) known differs =
        ap cpu_word (cpu_at-newest pass.facts (event pass.number (SetO c)) h legal d.number
        ∙ if-never (nat_eq c.number d.number) Absent (cpu_at s d.number)
        (λ here. differs (λ i. Cpu (record { number = sym (eqb-true c.number d.number here) i }))))
    absent-others legal (Acknowledgement d f) known differs = left (Acknowledgement d f) refl

  pub absent-may : MayStep pages shown pass (place_in (blocks_of pass.facts.layout) (Cpu c))
      (λ n. cpu_word Absent) (λ n. SetO c)
  absent-may =
      set-may pass (Cpu c) sets.cpu (SetO c) (cpu_word Absent) refl still
      (λ h legal goes. ap cpu_word (cpu_at-newest pass.facts (event pass.number (SetO c)) h legal c.number
      ∙ ap (λ b. if b then Absent else cpu_at (state_after pass.facts h) c.number) (eq-eqb c.number c.number refl)))
      (λ h legal goes. absent-others h goes legal)
