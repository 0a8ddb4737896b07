-- What the parts of a fold make of a state, and of the sums that are taken for the items.
use Rattle.std.specs.Prelude.{◌≡◌, ◌≢◌, ℕ, ◌+◌, ◌*◌, ◌<◌, ◌≤◌, ◌⊎◌, nat_eq, ◌&&◌, Bool, true, ℤ, pos, ◌+ℤ◌, List}
use Rattle.std.specs.Prelude.{length, slice_index_or, if◌then◌else◌, Option, Some, unsigned_abs, All}
use Rattle.vms_calls.specs.Common.{Diffs, CpuId, Shape, IsCounter, IsCpu, IsItem, IsZone, counter_at, group_of}
use Rattle.vms_calls.specs.Common.{item_count, item_of, sum_below, LeadsOn, State, HasShape, acknowledged_at, diff_at}
use Rattle.vms_calls.specs.Common.{system_at, threshold_sets_at, value_at, FoundPlace, HasGroups, acknowledges}
use Rattle.vms_calls.specs.Common.{group_steps, place_steps, system_steps, taken_of_item, in_turn}
use Rattle.vms_plain_pages.specs.StateSteps.{pages_by_state}

-- the sum of item i
abbrev pub sum_at : List ℤ → ℕ → ℤ
sum_at sums i = slice_index_or sums i (pos 0)

-- no sum is larger than `most`
pub record AreSums (most : ℕ) (sums : List ℤ) : Type 0 where
  pub each : (i : ℕ) → unsigned_abs (sum_at sums i) ≤ most

-- counter l is none of the n counters from k on
abbrev pub IsOutside : ℕ → ℕ → ℕ → Type 0
IsOutside k n l = (l < k) ⊎ (k + n ≤ l)

-- the differentials of CPU c for item i, in n counters from k on
abbrev pub part_of_item : Shape → State → (c i k n : ℕ) → ℤ
part_of_item shape s c i k n =
    sum_below (λ m. if nat_eq (item_of shape (k + m)) i then diff_at s c (k + m) else pos 0) n

-- the differentials of CPU c for n counters from k on are added to the global values and to the sums, and are 0
pub record FoldsCounters (shape : Shape) (c k n : ℕ) (s next : State) (before after : List ℤ) : Type 0 where
  pub rest : next ≡ record s { place = next.place; diff = next.diff; acknowledged = next.acknowledged }
  pub shaped : HasShape shape next
  pub values : (l : ℕ) → k ≤ l → l < k + n → value_at next l ≡ value_at s l +ℤ diff_at s c l
  pub other_values : (l : ℕ) → IsOutside k n l → value_at next l ≡ value_at s l
  pub zeros : (l : ℕ) → k ≤ l → l < k + n → diff_at next c l ≡ pos 0
  pub other_diffs : (d l : ℕ) → IsCpu shape d → IsCounter shape l → (d ≢ c) ⊎ IsOutside k n l
      → diff_at next d l ≡ diff_at s d l
  pub sums : (i : ℕ) → sum_at after i ≡ sum_at before i +ℤ part_of_item shape s c i k n

-- a fold takes n groups from j on
pub record FoldsGroups (shape : Shape) (c : CpuId) (j n : ℕ) (s next : State) (before after : List ℤ) : Type 0 where
  pub groups : List Diffs
  pub one_each : length groups ≡ n
  pub eight_each : All (λ w. length w.values ≡ 8) groups
  pub leads : (who : Option CpuId) → LeadsOn pages_by_state who (in_turn (group_steps c) j groups) s next
  pub counters : FoldsCounters shape c.number (8 * j) (8 * n) s next before after
  pub taken : (i : ℕ) → sum_at after i ≡ sum_at before i +ℤ taken_of_item shape i j groups
  pub acknowledged : next.acknowledged ≡ s.acknowledged

-- what CPU d acknowledged of zone h after CPU c has folded place g
abbrev pub acknowledged_of_place : Shape → Bool → ℕ → State → (g d h : ℕ) → Option ℕ
acknowledged_of_place shape is_own c s g d h =
    if acknowledges shape is_own g && nat_eq c d && nat_eq g h
    then Some (threshold_sets_at s c g)
    else acknowledged_at s d h

-- a fold visits place g
pub record FoldsPlace (shape : Shape) (is_own : Bool) (c : CpuId) (g : ℕ) (s next : State) (before after : List ℤ)
    : Type 0 where
  pub found : FoundPlace
  pub groups : HasGroups shape found
  pub leads : (who : Option CpuId) → (is_own ≡ true → who ≡ Some c)
      → LeadsOn pages_by_state who (place_steps shape (acknowledges shape is_own g) c g found) s next
  pub counters : FoldsCounters shape c.number (counter_at shape g 0) shape.positions s next before after
  pub taken : (i : ℕ) → sum_at after i
      ≡ sum_at before i +ℤ taken_of_item shape i (group_of (counter_at shape g 0)) found.groups
  pub acknowledged : (d h : ℕ) → IsCpu shape d → IsZone shape h
      → acknowledged_at next d h ≡ acknowledged_of_place shape is_own c.number s g d h

-- a fold adds the sums to the system-wide values, where they are what was taken for the items
pub record AddsSums (shape : Shape) (sums : List ℤ) (s next : State) : Type 0 where
  pub rest : next ≡ record s { system = next.system }
  pub same_length : length next.system ≡ length s.system
  pub systems : (i : ℕ) → IsItem shape i → system_at next i ≡ system_at s i +ℤ sum_at sums i
  pub leads : (who : Option CpuId) (groups : List Diffs)
      → ((i : ℕ) → IsItem shape i → taken_of_item shape i 0 groups ≡ sum_at sums i)
      → LeadsOn pages_by_state who (system_steps shape groups 0 (item_count shape)) s next
