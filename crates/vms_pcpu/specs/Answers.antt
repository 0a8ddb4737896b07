-- What the answers of a pass's calls mean, whatever others do meanwhile. Each speaks of what the pass had seen before
-- the call, and of what it has seen after it.
use Rattle.std.specs.Prelude.{◌≡◌, ℕ, Bool, true, false, ℤ, pos, MatchBool}
use Rattle.vms_history.specs.Common.{CpuId, PcpuId}
use Rattle.vms_pcpu_core.specs.declared.answers.Compare.{Compare}
use Rattle.vms_pcpu_core.specs.declared.steps.PcpuFacts.{PcpuFacts}
use Rattle.vms_pcpu_core.specs.declared.steps.PcpuStep.{PcpuStep}
use Rattle.vms_pcpu_core.specs.Common.{MovesOnce, numbers_after, KeepsLimit, PassesLimit, IsAlone, IsExact, IsPcpu}
use Rattle.vms_pcpu_core.specs.Common.{local_at, SumsUp, TellsRoughly, TellsBySum}
use Rattle.vms_seats.specs.Common.{Pass}

-- a sum is the true total when the call won the lock, and what each CPU added to its local part from there to the
-- call's load of that part
abbrev pub SumMeans : Pass PcpuFacts PcpuStep → Pass PcpuFacts PcpuStep → PcpuId → ℤ → Type 0
SumMeans new old j sum = SumsUp old.facts old.seen new.seen old.number j sum

-- a rough comparison tells the sign of the true total, less what is carried, less the other number, when the call
-- loaded the shared part. Any other tells the sign of a sum, less the other number
abbrev pub CompareMeans : Pass PcpuFacts PcpuStep → Pass PcpuFacts PcpuStep → PcpuId → ℤ → Compare → Type 0
CompareMeans new old j rhs answer = MatchBool answer.rough
    (TellsRoughly old.facts old.seen new.seen old.number j rhs answer)
    (TellsBySum old.facts old.seen new.seen old.number j rhs answer)

-- what the answer of a limited addition of another amount than 0 means
pub record LimitedAddMeans (new old : Pass PcpuFacts PcpuStep) (j : PcpuId) (limit amount : ℤ) (answer : Bool)
    : Type 0 where
  -- a yes leaves the true total past the limit at most by what others changed that way since the call's first step, and
  -- by what they carried that way when the call loaded the shared part without the lock
  pub yes_keeps : answer ≡ true → KeepsLimit old.facts old.seen new.seen old.number j limit amount
  -- a no means that the true total when the call won the lock and the amount are past the limit, together with what
  -- others changed that way from there to the call's last reading
  pub no_passes : answer ≡ false → PassesLimit old.facts old.seen new.seen old.number j limit amount
  -- where no other caller changes the counter meanwhile or carries something for it, the answer is exact
  pub exact : IsAlone old.seen new.seen old.number j.number →
      IsExact old.facts old.seen new.seen j.number limit amount answer

-- the local parts of a dead CPU have moved, each of them once, and none stands any more
pub record HasFoldedDead (pass : Pass PcpuFacts PcpuStep) (dead : CpuId) : Type 0 where
  pub none_left : (j : ℕ) → IsPcpu pass.facts j → local_at (numbers_after pass.facts pass.seen) dead.number j ≡ pos 0
  pub moved_once : (j : ℕ) → IsPcpu pass.facts j → MovesOnce pass.facts pass.seen dead.number j
