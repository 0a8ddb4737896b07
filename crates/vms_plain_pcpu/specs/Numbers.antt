-- The numbers of plain data: how large they are, and what calls make of them.
use Rattle.std.specs.Prelude.{◌≡◌, ◌≢◌, ℕ, ◌*◌, ◌<◌, ◌≤◌, nat_eq, nat_le, nat_lt, ◌&&◌, ◌||◌, not, Bool, ℤ, pos, ◌+ℤ◌}
use Rattle.std.specs.Prelude.{int_le, List, [], ◌∷◌, length, slice_set, if◌then◌else◌, unsigned_abs, count_by}
use Rattle.vms_history.specs.Common.{CpuId, CpuState, is_present, present_from, cell}
use Rattle.vms_pcpu_core.specs.declared.states.PcpuState.{PcpuState}
use Rattle.vms_pcpu_core.specs.Common.{most_batch, room, most_number, batch_at, count_at, counters_of, local_at}

-- counter j stands in the lists, and its numbers are as small as in every history
pub record HasRoomFor (s : PcpuState) (j : ℕ) : Type 0 where
  pub counter : j < counters_of s
  pub one_count_each : length s.count ≡ counters_of s
  pub batch : batch_at s j ≤ most_batch
  pub count : unsigned_abs (count_at s j) ≤ most_number
  pub locals : (c : ℕ) → unsigned_abs (local_at s c j) ≤ batch_at s j

-- there is a local part for each of n CPUs and each counter
abbrev pub HasLocals : PcpuState → ℕ → Type 0
HasLocals s n = n * counters_of s ≤ length s.local

-- what the local parts of a counter may hide from its shared part
abbrev pub unknown_in : PcpuState → List CpuState → ℕ → ℕ
unknown_in s states j = batch_at s j * count_by is_present states

-- the local parts of these CPUs, in sum
abbrev pub locals_over : PcpuState → ℕ → List CpuId → ℤ
locals_over s j [] = pos 0
locals_over s j (c ∷ cpus) = local_at s c.number j +ℤ locals_over s j cpus

-- the shared part and the local parts of the CPUs that are present: what a counter is in truth
abbrev pub total_in : PcpuState → List CpuState → ℕ → ℤ
total_in s states j = count_at s j +ℤ locals_over s j (present_from 0 states)

-- an amount is added to a CPU's local part
abbrev pub with_local_added : (c j : ℕ) → ℤ → PcpuState → PcpuState
with_local_added c j amount s =
    record s { local = slice_set s.local (cell (counters_of s) c j) (local_at s c j +ℤ amount) }

-- a CPU's local part moves to the shared part together with an amount
abbrev pub with_local_moved : (c j : ℕ) → ℤ → PcpuState → PcpuState
with_local_moved c j amount s = record s {
  local = slice_set s.local (cell (counters_of s) c j) (pos 0);
  count = slice_set s.count j (count_at s j +ℤ (local_at s c j +ℤ amount));
}

-- an addition stays with the CPU where the local part stays below the batch (`percpu_counter_add_batch`)
abbrev pub with_added : (c j : ℕ) → ℤ → PcpuState → PcpuState
with_added c j amount s =
    if nat_lt (unsigned_abs (local_at s c j +ℤ amount)) (batch_at s j)
    then with_local_added c j amount s
    else with_local_moved c j amount s

-- a limited addition needs no lock where the local part stays within the batch, and the limit is further off than what
-- the local parts may hide
abbrev pub goes_unlocked : PcpuState → List CpuState → (c j : ℕ) → (limit amount : ℤ) → Bool
goes_unlocked s states c j limit amount =
    nat_le (unsigned_abs (local_at s c j +ℤ amount)) (batch_at s j)
    && int_le (pos (unknown_in s states j)) (room limit amount (count_at s j))

-- what a limited addition makes of the numbers: nothing where it says no, or where the amount is 0
abbrev pub with_limited : Bool → List CpuState → (c j : ℕ) → (limit amount : ℤ) → PcpuState → PcpuState
with_limited answer states c j limit amount s =
    if not answer || nat_eq (unsigned_abs amount) 0
    then s
    else (if goes_unlocked s states c j limit amount
    then with_local_added c j amount s
    else with_local_moved c j amount s)

-- the local parts of CPU c have moved to the shared parts, and all other numbers stay
pub record MovesLocals (c : ℕ) (s next : PcpuState) : Type 0 where
  pub batches : next.batch ≡ s.batch
  pub one_count_each : length next.count ≡ length s.count
  pub one_local_each : length next.local ≡ length s.local
  pub counts : (j : ℕ) → j < counters_of s → count_at next j ≡ count_at s j +ℤ local_at s c j
  pub emptied : (j : ℕ) → j < counters_of s → local_at next c j ≡ pos 0
  pub others : (d j : ℕ) → j < counters_of s → d ≢ c → local_at next d j ≡ local_at s d j
