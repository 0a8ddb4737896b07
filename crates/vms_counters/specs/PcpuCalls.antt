-- What the calls of a handle on percpu counters make, and when they are refused.
use Rattle.std.specs.Prelude.{◌≡◌, ℕ, ◌^◌, List, slice_index, Some, unsigned_abs}
use Rattle.vms_world.specs.Common.{CpuId, IsPcpuCall, LeavesVolume, NamesKnown, PcpuAnswer, PcpuCall, PcpuFacts}
use Rattle.vms_world.specs.Common.{PcpuStep, Add, Compare, LimitedAdd, Read}
use Rattle.vms_pcpu_core.specs.declared.pcpu_calls.PcpuCall.TheVariants.{FoldDead, Sum, Sync}
use Rattle.vms_pcpu_core.specs.PcpuCalls.{IsWithin}
use Rattle.vms_pcpu_core.specs.States.{batch_at}
use Rattle.vms_pcpu_core.specs.Calls.{unknown}
use Rattle.vms_pcpu.specs.Common.{GivesUp, GivesUpAdd, GivesUpLimitedAdd, MakesCall, with_spent}
use Rattle.vms_counters.specs.declared.errors.CallError.{CallError}
use Rattle.vms_counters.specs.declared.errors.CallError.TheVariants.{Held, NoPcpu, TooFar, TooMuch}
use Rattle.vms_counters.specs.Handles.{PcpuHandle}

-- a handle made a call that answers this, and the volume of the call's counter grew by what the call may add
pub record MakesPcpu (call : PcpuCall) (new old : PcpuHandle) (answer : PcpuAnswer) : Type 0 where
  pub known : NamesKnown old.pass.facts call
  pub made : MakesCall new.pass old.pass (λ own steps. IsPcpuCall old.pass.facts (Some own) call steps answer)
  pub volume : new.volume ≡ with_spent call old.volume

-- the number of a call's counter, and what the call may add to it, in size
abbrev pub number_of : PcpuCall → ℕ
number_of (Add j amount) = j.number
number_of (LimitedAdd j limit amount) = j.number
number_of (Compare j rhs) = j.number
number_of (Sum j) = j.number
number_of (Read j) = j.number
number_of (Sync j) = j.number
number_of (FoldDead dead) = dead.number

abbrev pub size_of_call : PcpuCall → ℕ
size_of_call (Add j amount) = unsigned_abs amount
size_of_call (LimitedAdd j limit amount) = unsigned_abs amount
size_of_call _ = 0

-- how far from 0 a limit, or a number that a counter is compared with, may be
abbrev pub farthest : ℕ
farthest = 2 ^ 60

-- why a call is refused, with the handle as it was: there is no such counter, its limit or other number is too far from
-- 0, or the CPU would have added more to the counter than a run may
abbrev pub RefusesPcpu : PcpuCall → PcpuHandle → PcpuHandle → CallError → Type 0
RefusesPcpu call new old (NoPcpu n) =
    (n ≡ number_of call) × (NamesKnown old.pass.facts call → ⊥) × (new ≡ old)
RefusesPcpu call new old TooFar =
    NamesKnown old.pass.facts call × (IsWithin farthest call → ⊥) × (new ≡ old)
RefusesPcpu call new old (TooMuch overflow) =
    (overflow ≡ record { volume = slice_index old.volume (number_of call); size = size_of_call call })
    × NamesKnown old.pass.facts call × IsWithin farthest call
    × (LeavesVolume (slice_index old.volume) call → ⊥) × (new ≡ old)
RefusesPcpu call new old _ = ⊥

-- the steps of a call that gave the counter's lock up: loads, and one try that found it held
abbrev pub GivesUpCall : PcpuFacts → CpuId → PcpuCall → List PcpuStep → Type 0
GivesUpCall facts own (Add j amount) steps = GivesUpAdd (batch_at facts.base j.number) own j amount steps
GivesUpCall facts own (LimitedAdd j limit amount) steps =
    GivesUpLimitedAdd (batch_at facts.base j.number) (unknown facts j.number) own j limit amount steps
GivesUpCall facts own (Sum j) steps = GivesUp j steps
GivesUpCall facts own (Sync j) steps = GivesUp j steps
GivesUpCall facts own _ steps = ⊥

-- why a call that doesn't wait is refused: as any, or others hold the counter's lock, with the counter and the volumes
-- as they were
abbrev pub RefusesTry : PcpuCall → PcpuHandle → PcpuHandle → CallError → Type 0
RefusesTry call new old Held =
    NamesKnown old.pass.facts call
    × MakesCall new.pass old.pass (λ own steps. GivesUpCall old.pass.facts own call steps)
    × (new.volume ≡ old.volume)
RefusesTry call new old error = RefusesPcpu call new old error
