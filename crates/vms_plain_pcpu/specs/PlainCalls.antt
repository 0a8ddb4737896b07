-- A call of a pass that owns a CPU as one value: what leaves room for it, what it makes of the numbers and answers.
use Rattle.std.specs.Prelude.{◌≡◌, ◌+◌, ◌≤◌, ◌^◌, true, pos, List, length, unsigned_abs}
use Rattle.vms_history.specs.Common.{CpuId, CpuState, is_present, most_volume, state_at}
use Rattle.vms_pcpu_core.specs.declared.answers.PcpuAnswer.{PcpuAnswer}
use Rattle.vms_pcpu_core.specs.declared.answers.PcpuAnswer.TheVariants.{Done, Limited, Compared, Total, Count}
use Rattle.vms_pcpu_core.specs.declared.pcpu_calls.PcpuCall.{PcpuCall}
use Rattle.vms_pcpu_core.specs.declared.pcpu_calls.PcpuCall.TheVariants.{Add, LimitedAdd, Compare, Sum, Read, Sync}
use Rattle.vms_pcpu_core.specs.declared.pcpu_calls.PcpuCall.TheVariants.{FoldDead}
use Rattle.vms_pcpu_core.specs.declared.states.PcpuState.{PcpuState}
use Rattle.vms_pcpu_core.specs.Common.{count_at}
use Rattle.vms_plain_pcpu.specs.Answers.{AnswersByLimit, ComparesTotal}
use Rattle.vms_plain_pcpu.specs.Numbers.{HasLocals, HasRoomFor, total_in, with_added, with_limited, with_local_moved}

-- the numbers of the call's counter are small, and so are the call's own
abbrev pub HasRoomForCall : PcpuState → PcpuCall → Type 0
HasRoomForCall s (Add j amount) = HasRoomFor s j.number × (unsigned_abs amount ≤ most_volume)
HasRoomForCall s (LimitedAdd j limit amount) =
    HasRoomFor s j.number × (unsigned_abs amount ≤ most_volume) × (unsigned_abs limit ≤ 2 ^ 62)
HasRoomForCall s (Compare j rhs) = HasRoomFor s j.number × (unsigned_abs rhs ≤ 2 ^ 62)
HasRoomForCall s (Sum j) = HasRoomFor s j.number
HasRoomForCall s (Read j) = HasRoomFor s j.number
HasRoomForCall s (Sync j) = HasRoomFor s j.number
HasRoomForCall s (FoldDead dead) = ⊥

-- each CPU has local parts, and there are few CPUs
pub record HasEachLocal (s : PcpuState) (states : List CpuState) : Type 0 where
  pub cpus : HasLocals s (length states)
  pub few : length states ≤ 128

-- the local parts that a call may look at or change are there: those of its own CPU, of each CPU, or none
abbrev pub HasLocalsForCall : PcpuState → List CpuState → CpuId → PcpuCall → Type 0
HasLocalsForCall s states own (Add j amount) = HasLocals s (own.number + 1)
HasLocalsForCall s states own (LimitedAdd j limit amount) =
    HasEachLocal s states × (is_present (state_at states own.number) ≡ true)
HasLocalsForCall s states own (Compare j rhs) = HasEachLocal s states
HasLocalsForCall s states own (Sum j) = HasEachLocal s states
HasLocalsForCall s states own (Sync j) = HasLocals s (own.number + 1)
HasLocalsForCall s states own _ = Unit {0}

-- what it makes of the numbers, where it gave this answer
abbrev pub with_call : List CpuState → CpuId → PcpuCall → PcpuAnswer → PcpuState → PcpuState
with_call states own (Add j amount) answer s = with_added own.number j.number amount s
with_call states own (LimitedAdd j limit amount) (Limited made) s =
    with_limited made states own.number j.number limit amount s
with_call states own (Sync j) answer s = with_local_moved own.number j.number (pos 0) s
with_call states own _ answer s = s

-- what it answers, by the numbers that stand
abbrev pub AnswersCall : PcpuState → List CpuState → PcpuCall → PcpuAnswer → Type 0
AnswersCall s states (Add j amount) Done = Unit {0}
AnswersCall s states (LimitedAdd j limit amount) (Limited made) = AnswersByLimit s states j.number limit amount made
AnswersCall s states (Compare j rhs) (Compared answer) = ComparesTotal s states j.number rhs answer
AnswersCall s states (Sum j) (Total sum) = sum ≡ total_in s states j.number
AnswersCall s states (Read j) (Count count) = count ≡ count_at s j.number
AnswersCall s states (Sync j) Done = Unit {0}
AnswersCall s states _ _ = ⊥
