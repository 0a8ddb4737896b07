-- What a pass that lives knows of the state by its own events.
use Rattle.std.specs.Prelude.{◌≡◌, ℕ, ◌+◌, ◌≤◌, true, ◌⊎◌, ℤ, List, [], ◌∷◌, length, Some, unsigned_abs}
use Rattle.vms_history.specs.Common.{Diffs, CounterId, CpuId, Online, IsCpu, IsZone, IsCounter, IsGroup, place_of}
use Rattle.vms_history.specs.Common.{group_of, Extends, own, owner_in, most_volume}
use Rattle.vms_history.specs.declared.events.Event.{Event}
use Rattle.vms_history.specs.PassSteps as making
use Rattle.vms_core.specs.declared.states.State.{State}
use Rattle.vms_core.specs.declared.steps.Facts.{Facts}
use Rattle.vms_core.specs.declared.steps.Step.{Step}
use Rattle.vms_core.specs.declared.steps.Step.TheVariants.{LoadD, Put, Miss, Take}
use Rattle.vms_core.specs.Cells.{TellsGroup, threshold_at, threshold_sets_at, mark_at, mark_sets_at, cpu_at}
use Rattle.vms_core.specs.Cells.{acknowledged_at, eight_zeros}
use Rattle.vms_core.specs.Own.{found, loaded, CarriesNothing}
use Rattle.vms_core.specs.Pages.{pages, History, IsLegal, state_after}
use Rattle.vms_core.specs.Peaks.{sets, threshold_in, cpu_in, peak, peak_sum}
use Rattle.vms_core.specs.PeakLaws.{OwnsNow}
use Rattle.vms_core.specs.Steps.{role}
use Rattle.vms_core.specs.Taken.{has_taken}
use Rattle.vms_core.specs.Totals.{spent}

-- the CPU of a pass is one of the layout and online
abbrev pub OwnsOnline : Facts → History → Type 0
OwnsOnline facts h = (p : ℕ) (c : CpuId) → owner_in role h p ≡ Some c →
    IsCpu facts.layout c.number × (cpu_at (state_after facts h) c.number ≡ Online)

-- the list of differentials that a step names has eight entries
abbrev pub NamesEight : Step → Type 0
NamesEight (LoadD c j w) = length w.values ≡ 8
NamesEight (Put k w t delta how) = length w.values ≡ 8
NamesEight (Miss j w) = length w.values ≡ 8
NamesEight (Take c j w) = length w.values ≡ 8
NamesEight _ = Unit {0}

-- so do the lists of all these steps
abbrev pub NameEight : History → Type 0
NameEight [] = Unit {0}
NameEight (e ∷ h) = NamesEight e.step × NameEight h

-- the differentials of each group stand as a list of eight bytes
abbrev pub GroupsAreLists : Facts → History → Type 0
GroupsAreLists facts h = (c j : ℕ) → IsCpu facts.layout c → IsGroup facts.layout j →
    (w : Diffs) × TellsGroup (state_after facts h) c j w.values

-- the group holds this list, or it was taken and holds eight zeros
abbrev pub StandsOrTaken : State → ℕ → ℕ → List ℤ → Type 0
StandsOrTaken s c j values = TellsGroup s c j values ⊎ TellsGroup s c j eight_zeros

-- the list that the live owner of a CPU found last of a group stands, or all eight are 0
abbrev pub KnowsFound : Facts → History → Type 0
KnowsFound facts h = (p : ℕ) (c : CpuId) (j : ℕ) (values : List ℤ) → OwnsNow h p c → IsGroup facts.layout j →
    found c j (own h p) ≡ Some values → StandsOrTaken (state_after facts h) c.number j values

-- the history went on from an earlier one with steps of others: pass p lives in both and made none since
abbrev pub GoesOnWithout : Facts → History → History → ℕ → Type 0
GoesOnWithout facts later earlier p = making.GoesOnWithout pages facts later earlier p

-- what a pass that owns this CPU knows from an earlier history: it owns the CPU still, and the CPU spent no more
pub record OwnerKnows (later earlier : History) (p : ℕ) (c : CpuId) : Type 0 where
  pub owner : owner_in role later p ≡ Some c
  pub volumes : (k : ℕ) → spent later c.number k ≡ spent earlier c.number k

-- what the control pass knows from an earlier history: thresholds, marks, the CPUs' states and the peaks are as they
-- were
pub record ControlKnows (facts : Facts) (later earlier : History) : Type 0 where
  pub thresholds : (c g : ℕ) → threshold_at (state_after facts later) c g ≡ threshold_at (state_after facts earlier) c g
  pub threshold_sets : (c g : ℕ) →
      threshold_sets_at (state_after facts later) c g ≡ threshold_sets_at (state_after facts earlier) c g
  pub marks : (g : ℕ) → mark_at (state_after facts later) g ≡ mark_at (state_after facts earlier) g
  pub mark_sets : (g : ℕ) → mark_sets_at (state_after facts later) g ≡ mark_sets_at (state_after facts earlier) g
  pub cpus : (c : ℕ) → cpu_at (state_after facts later) c ≡ cpu_at (state_after facts earlier) c
  pub sets : (c g : ℕ) → sets c g later ≡ sets c g earlier
  pub newest : (c g : ℕ) → threshold_in facts c g later ≡ threshold_in facts c g earlier
  pub states : (c : ℕ) → cpu_in facts c later ≡ cpu_in facts c earlier
  pub peaks : (c g : ℕ) → peak facts c g later ≡ peak facts c g earlier
  pub peak_sums : (g : ℕ) → peak_sum facts g later ≡ peak_sum facts g earlier
  -- and after a further event they come to the same
  pub next_peak_sums : (e : Event Step) (g : ℕ) → peak_sum facts g (e ∷ later) ≡ peak_sum facts g (e ∷ earlier)

-- the history went on from an earlier one, and the main pass made no event since
pub record GoesOnWithoutMain (facts : Facts) (later earlier : History) : Type 0 where
  pub legal : IsLegal facts later
  pub extends : Extends later earlier
  pub own_same : own later 0 ≡ own earlier 0

-- what stands of a CPU while no pass owns it: what it spent and what it acknowledged
pub record StandsFree (facts : Facts) (later earlier : History) (c : ℕ) : Type 0 where
  pub volumes : (k : ℕ) → spent later c k ≡ spent earlier c k
  pub acknowledged : (g : ℕ) → IsZone facts.layout g →
      acknowledged_at (state_after facts later) c g ≡ acknowledged_at (state_after facts earlier) c g

-- the live owner of a CPU found this list, loaded this threshold, carries nothing and may spend this much
pub record MayExchange (facts : Facts) (h : History) (p : ℕ) (cpu : CpuId) (k : CounterId) (w : Diffs) (t : ℕ)
    (delta : ℤ) : Type 0 where
  pub legal : IsLegal facts h
  pub owner : OwnsNow h p cpu
  pub counter : IsCounter facts.layout k.number
  pub as_found : found cpu (group_of k.number) (own h p) ≡ Some w.values
  pub number : ℕ
  pub as_loaded : loaded (place_of facts.layout k.number) (own h p) ≡ Some (record { t = t; number = number })
  pub nothing_carried : CarriesNothing facts.layout (own h p)
  pub affordable : spent h cpu.number k.number + unsigned_abs delta ≤ most_volume

-- a caller took every group of a CPU
abbrev pub HasTakenAll : Facts → ℕ → History → Type 0
HasTakenAll facts c mine = (j : ℕ) → IsGroup facts.layout j → has_taken c j mine ≡ true
