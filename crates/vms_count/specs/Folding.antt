-- What the parts of a fold make while others act, and of the sums that are taken for the items.
use Rattle.std.specs.Prelude.{◌≡◌, ℕ, ◌+◌, ◌<◌, ◌≤◌, nat_eq, Bool, true, false, ℤ, pos, ◌+ℤ◌, List, length, All}
use Rattle.std.specs.Prelude.{slice_index_or, Option, Some, None, unsigned_abs}
use Rattle.vms_calls.specs.Common.{Diffs, CpuId, Shape, counter_at, group_of, own, FoundPlace, HasGroups, IsFold}
use Rattle.vms_calls.specs.Common.{acknowledges, group_steps, place_steps, lists_of, taken_of_item, in_turn, Facts}
use Rattle.vms_calls.specs.Common.{Step, carried, carried_of_item, loaded, took, has_put, pages, History}
use Rattle.vms_seats.specs.Common.{Pass, Made}

-- whether a pass that owns `who` owns this CPU
abbrev pub owns_cpu : Option CpuId → CpuId → Bool
owns_cpu (Some d) c = nat_eq d.number c.number
owns_cpu None c = false

-- the pass folded a CPU by the steps of a fold, whatever others did in between; its owner acknowledges
pub record HasFolded (shape : Shape) (new old : Pass Facts Step) (c : CpuId) : Type 0 where
  pub steps : List Step
  pub fold : IsFold shape (owns_cpu old.cpu c) c steps
  pub made : Made pages new old steps

-- the pass's own events
abbrev pub mine : Pass Facts Step → History
mine pass = own pass.seen pass.number

-- the sum of item i
abbrev pub sum_at : List ℤ → ℕ → ℤ
sum_at sums i = slice_index_or sums i (pos 0)

-- no sum is larger than `most`
pub record AreSums (most : ℕ) (sums : List ℤ) : Type 0 where
  pub each : (i : ℕ) → unsigned_abs (sum_at sums i) ≤ most

-- nothing is carried for a counter
abbrev pub NoneForCounters : Pass Facts Step → Type 0
NoneForCounters pass = (k : ℕ) → carried k (mine pass) ≡ pos 0

-- what the pass carries for each item grew by an amount, and so did the item's sum
pub record Gathers (shape : Shape) (amount : ℕ → ℤ) (new old : Pass Facts Step) (before after : List ℤ)
    : Type 0 where
  pub items : (i : ℕ) → carried_of_item shape i (mine new) ≡ carried_of_item shape i (mine old) +ℤ amount i
  pub sums : (i : ℕ) → sum_at after i ≡ sum_at before i +ℤ amount i

-- the pass loaded no threshold since and put nothing, and what it took it has taken
pub record KeepsLoads (shape : Shape) (c : CpuId) (new old : Pass Facts Step) : Type 0 where
  pub loads : (g : ℕ) → loaded g (mine new) ≡ loaded g (mine old)
  pub puts : (g : ℕ) → has_put shape g (mine new) ≡ has_put shape g (mine old)
  pub takes : (g j : ℕ) → took c g j (mine old) ≡ true → took c g j (mine new) ≡ true

-- the pass took groups from j on and found these lists, each of which it added to its counters
pub record FoldsGroups (shape : Shape) (c : CpuId) (j : ℕ) (groups : List Diffs) (new old : Pass Facts Step)
    (before after : List ℤ) : Type 0 where
  pub eight_each : All (λ w. length w.values ≡ 8) groups
  pub made : Made pages new old (in_turn (group_steps c) j groups)
  pub none : NoneForCounters new
  pub gathers : Gathers shape (λ i. taken_of_item shape i j groups) new old before after
  pub keeps : KeepsLoads shape c new old
  pub took_each : (g i : ℕ) → j ≤ i → i < j + length groups → took c g i (mine new) ≡ true

-- the pass visited place g
pub record FoldsPlace (shape : Shape) (is_acknowledged : Bool) (c : CpuId) (g : ℕ) (new old : Pass Facts Step)
    (before after : List ℤ) : Type 0 where
  pub found : FoundPlace
  pub groups : HasGroups shape found
  pub made : Made pages new old (place_steps shape is_acknowledged c g found)
  pub none : NoneForCounters new
  pub gathers : Gathers shape (λ i. taken_of_item shape i (group_of (counter_at shape g 0)) found.groups) new old
      before after

-- the pass visited the first n places
pub record FoldsPlaces (shape : Shape) (is_own : Bool) (c : CpuId) (n : ℕ) (new old : Pass Facts Step)
    (before after : List ℤ) : Type 0 where
  pub places : List FoundPlace
  pub one_each : length places ≡ n
  pub groups : All (HasGroups shape) places
  pub made : Made pages new old
      (in_turn (λ g found. place_steps shape (acknowledges shape is_own g) c g found) 0 places)
  pub none : NoneForCounters new
  pub gathers : Gathers shape (λ i. taken_of_item shape i 0 (lists_of places)) new old before after
