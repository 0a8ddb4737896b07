-- What each kind of step asks, in the state before it and of the history before it.
use Rattle.std.specs.Prelude.{◌≡◌, ◌≢◌, ℕ, ◌+◌, ◌^◌, ◌<◌, ◌≤◌, true, false, ℤ, pos, List, ◌∷◌, Option, Some, None}
use Rattle.std.specs.Prelude.{unsigned_abs}
use Rattle.vms_history.specs.Common.{Diffs, CounterId, CpuId, GroupId, ItemId, PlaceId, Online, Dead, most_volume}
use Rattle.vms_history.specs.Common.{IsCpu, IsPlace, IsZone, IsCounter, IsGroup, IsItem, place_of, group_of}
use Rattle.vms_history.specs.Common.{first_of_group, Covers, most_threshold, own, owner_in, size_at}
use Rattle.vms_history.specs.declared.events.Event.{Event}
use Rattle.vms_core.specs.declared.states.State.{State}
use Rattle.vms_core.specs.declared.steps.Facts.{Facts}
use Rattle.vms_core.specs.declared.steps.Step.{Step}
use Rattle.vms_core.specs.declared.steps.Step.TheVariants.{LoadT, LoadD, Put, Miss, AddG, AddS, Take, LoadG, LoadS}
use Rattle.vms_core.specs.declared.steps.Step.TheVariants.{LoadM, LoadO, SetT, SetM, SetO, SetA, LoadA, Split, Join}
use Rattle.vms_core.specs.Cells.{TellsGroup, value_at, system_at, diff_at, threshold_at, threshold_sets_at, mark_at}
use Rattle.vms_core.specs.Cells.{mark_sets_at, cpu_at, acknowledged_at, eight_zeros}
use Rattle.vms_core.specs.Steps.{role}
use Rattle.vms_core.specs.Own.{found, loaded, took, has_put, carried, carried_of_item, CarriesNothing}
use Rattle.vms_core.specs.Totals.{spent}
use Rattle.vms_core.specs.Peaks.{peak_sum}

-- the pass owns this CPU
pub record Owns (facts : Facts) (h : List (Event Step)) (p : ℕ) (c : CpuId) : Type 0 where
  pub owner : owner_in role h p ≡ Some c
  pub within : IsCpu facts.layout c.number

-- the pass is the control pass
abbrev pub IsControl : List (Event Step) → ℕ → Type 0
IsControl h p = owner_in role h p ≡ None

-- a load of the own threshold of a place
pub record LoadsThreshold (facts : Facts) (h : List (Event Step)) (s : State) (p : ℕ) (g : PlaceId)
    (t a : ℕ) : Type 0 where
  pub cpu : CpuId
  pub owns : Owns facts h p cpu
  pub place : IsPlace facts.layout g.number
  pub value : threshold_at s cpu.number g.number ≡ t
  pub number : threshold_sets_at s cpu.number g.number ≡ a

-- a load of eight differentials, of any CPU; a take finds them likewise
pub record FindsGroup (facts : Facts) (s : State) (c : CpuId) (j : GroupId) (w : Diffs) : Type 0 where
  pub cpu : IsCpu facts.layout c.number
  pub group : IsGroup facts.layout j.number
  pub values : TellsGroup s c.number j.number w.values

-- an exchange that wins
pub record Puts (facts : Facts) (h : List (Event Step)) (s : State) (p : ℕ) (k : CounterId)
    (w : Diffs) (t : ℕ) (delta : ℤ) : Type 0 where
  pub cpu : CpuId
  pub owns : Owns facts h p cpu
  pub counter : IsCounter facts.layout k.number
  -- the differentials still are the list that the pass last found
  pub values : TellsGroup s cpu.number (group_of k.number) w.values
  pub as_found : found cpu (group_of k.number) (own h p) ≡ Some w.values
  -- the threshold is what the pass last loaded of the place, set so many times
  pub number : ℕ
  pub as_loaded : loaded (place_of facts.layout k.number) (own h p) ≡ Some (record { t = t; number = number })
  pub online : cpu_at s cpu.number ≡ Online
  pub nothing_carried : CarriesNothing facts.layout (own h p)
  pub affordable : spent h cpu.number k.number + unsigned_abs delta ≤ most_volume

-- an exchange that loses: another caller took the group, and the owner has put nothing there since
pub record Misses (facts : Facts) (h : List (Event Step)) (s : State) (p : ℕ) (j : GroupId) (w : Diffs) : Type 0 where
  pub cpu : CpuId
  pub owns : Owns facts h p cpu
  pub group : IsGroup facts.layout j.number
  pub zeros : TellsGroup s cpu.number j.number eight_zeros
  pub as_found : found cpu j.number (own h p) ≡ Some w.values
  pub other : w.values ≢ eight_zeros

-- an addition of all that the pass carries for a counter, or for an item
pub record AddsToPlace (facts : Facts) (h : List (Event Step)) (p : ℕ) (k : CounterId) (amount : ℤ) : Type 0 where
  pub counter : IsCounter facts.layout k.number
  pub carries : carried k.number (own h p) ≡ amount
  pub some : amount ≢ pos 0

pub record AddsToSystem (facts : Facts) (h : List (Event Step)) (p : ℕ) (i : ItemId) (amount : ℤ) : Type 0 where
  pub item : IsItem facts.layout i.number
  pub carries : carried_of_item facts.layout i.number (own h p) ≡ amount
  pub some : amount ≢ pos 0

-- a load of a drift mark
pub record LoadsMark (facts : Facts) (s : State) (g : PlaceId) (m a : ℕ) : Type 0 where
  pub zone : IsZone facts.layout g.number
  pub value : mark_at s g.number ≡ m
  pub number : mark_sets_at s g.number ≡ a

-- a threshold may be set on an online CPU where the zone's mark covers it
pub record SetsThreshold (facts : Facts) (h : List (Event Step)) (s : State) (p : ℕ) (c : CpuId)
    (g : PlaceId) (t : ℕ) : Type 0 where
  pub control : IsControl h p
  pub cpu : IsCpu facts.layout c.number
  pub place : IsPlace facts.layout g.number
  pub online : cpu_at s c.number ≡ Online
  pub least : 1 ≤ t
  pub most : t ≤ most_threshold
  pub covers : IsZone facts.layout g.number → Covers (size_at facts.sizes g.number) (mark_at s g.number)
      (peak_sum facts g.number (record { caller = p; step = SetT c g t } ∷ h))

-- a mark may be set where it covers
pub record SetsMark (facts : Facts) (h : List (Event Step)) (p : ℕ) (g : PlaceId) (m : ℕ) : Type 0 where
  pub control : IsControl h p
  pub zone : IsZone facts.layout g.number
  pub below : m < 2 ^ 43
  pub covers : Covers (size_at facts.sizes g.number) m (peak_sum facts g.number h)

-- a dead CPU may become absent once all its differentials are 0
pub record SetsAbsent (facts : Facts) (h : List (Event Step)) (s : State) (p : ℕ) (c : CpuId) : Type 0 where
  pub control : IsControl h p
  pub cpu : IsCpu facts.layout c.number
  pub dead : cpu_at s c.number ≡ Dead
  pub zeros : (k : ℕ) → IsCounter facts.layout k → diff_at s c.number k ≡ pos 0

-- a pass acknowledges the own threshold that it last loaded of a zone, once it has taken every own group of the zone
-- since, and put nothing there
pub record Acknowledges (facts : Facts) (h : List (Event Step)) (p : ℕ) (g : PlaceId) (a : ℕ) : Type 0 where
  pub cpu : CpuId
  pub owns : Owns facts h p cpu
  pub zone : IsZone facts.layout g.number
  pub t : ℕ
  pub as_loaded : loaded g.number (own h p) ≡ Some (record { t = t; number = a })
  pub took_each : (j : ℕ) → IsGroup facts.layout j → place_of facts.layout (first_of_group j) ≡ g.number →
      took cpu g.number j (own h p) ≡ true
  pub put_nothing : has_put facts.layout g.number (own h p) ≡ false

-- a load by the control pass of what a CPU acknowledged last
pub record LoadsAcknowledged (facts : Facts) (h : List (Event Step)) (s : State) (p : ℕ) (c : CpuId)
    (g : PlaceId) (x : Option ℕ) : Type 0 where
  pub control : IsControl h p
  pub cpu : IsCpu facts.layout c.number
  pub zone : IsZone facts.layout g.number
  pub value : acknowledged_at s c.number g.number ≡ x

-- the condition of each kind of step; that of a Split and a Join is in the rules of the passes
abbrev pub Meets : Facts → List (Event Step) → State → ℕ → Step → Type 0
Meets facts h s p (LoadT g t a) = LoadsThreshold facts h s p g t a
Meets facts h s p (LoadD c j w) = FindsGroup facts s c j w
Meets facts h s p (Put k w t delta how) = Puts facts h s p k w t delta
Meets facts h s p (Miss j w) = Misses facts h s p j w
Meets facts h s p (AddG k a) = AddsToPlace facts h p k a
Meets facts h s p (AddS i a) = AddsToSystem facts h p i a
Meets facts h s p (Take c j w) = FindsGroup facts s c j w
Meets facts h s p (LoadG k v) = IsCounter facts.layout k.number × (value_at s k.number ≡ v)
Meets facts h s p (LoadS i v) = IsItem facts.layout i.number × (system_at s i.number ≡ v)
Meets facts h s p (LoadM g m a) = LoadsMark facts s g m a
Meets facts h s p (LoadO c x) = IsCpu facts.layout c.number × (cpu_at s c.number ≡ x)
Meets facts h s p (SetT c g t) = SetsThreshold facts h s p c g t
Meets facts h s p (SetM g m) = SetsMark facts h p g m
Meets facts h s p (SetO c) = SetsAbsent facts h s p c
Meets facts h s p (SetA g a) = Acknowledges facts h p g a
Meets facts h s p (LoadA c g x) = LoadsAcknowledged facts h s p c g x
Meets facts h s p (Split q who) = Unit {0}
Meets facts h s p (Join q) = Unit {0}
