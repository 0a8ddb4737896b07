-- What is to be said of each call on the percpu counters: the steps that it makes with its answer, what it adds and
-- spends, where it may be made, and how its steps tell the answer.
use Rattle.std.specs.Prelude.{◌≡◌, ℕ, ◌+◌, ◌≤◌, nat_eq, Bool, false, ℤ, pos, List, [], Option, Some, None}
use Rattle.std.specs.Prelude.{if◌then◌else◌, unsigned_abs}
use Rattle.vms_history.specs.Common.{CpuId, Dead, IsCpu, most_volume, owner_in}
use Rattle.vms_pcpu_core.specs.declared.answers.PcpuAnswer.{PcpuAnswer}
use Rattle.vms_pcpu_core.specs.declared.answers.PcpuAnswer.TheVariants.{Done, Limited, Compared, Total, Count}
use Rattle.vms_pcpu_core.specs.declared.pcpu_calls.PcpuCall.{PcpuCall}
use Rattle.vms_pcpu_core.specs.declared.pcpu_calls.PcpuCall.TheVariants.{Add, LimitedAdd, Compare, Sum, Read, Sync}
use Rattle.vms_pcpu_core.specs.declared.pcpu_calls.PcpuCall.TheVariants.{FoldDead}
use Rattle.vms_pcpu_core.specs.declared.steps.PcpuFacts.{PcpuFacts}
use Rattle.vms_pcpu_core.specs.declared.steps.PcpuStep.{PcpuStep}
use Rattle.vms_pcpu_core.specs.Calls.{IsAdd, IsCompare, IsFoldDead, IsLimitedAdd, IsRead, IsSum, IsSync, present_cpus}
use Rattle.vms_pcpu_core.specs.Calls.{unknown}
use Rattle.vms_pcpu_core.specs.Histories.{History}
use Rattle.vms_pcpu_core.specs.MayCall.{MayCall, MayMake}
use Rattle.vms_pcpu_core.specs.OwnSteps.{added_through, as_is, carried_through, holds_through, size_of}
use Rattle.vms_pcpu_core.specs.Readings.{read_add, read_compare, read_count, read_fold_dead, read_limited_add, read_sum}
use Rattle.vms_pcpu_core.specs.Readings.{read_sync}
use Rattle.vms_pcpu_core.specs.States.{IsPcpu, batch_at, counters_of, cpu_at}
use Rattle.vms_pcpu_core.specs.Steps.{role}
use Rattle.vms_pcpu_core.specs.Totals.{spent}

-- the steps of a call by a pass that owns a CPU, or none, and what the call answers
abbrev pub IsPcpuCall : PcpuFacts → Option CpuId → PcpuCall → List PcpuStep → PcpuAnswer → Type 0
IsPcpuCall facts (Some own) (Add j amount) steps Done = IsAdd (batch_at facts.base j.number) own j amount steps
IsPcpuCall facts (Some own) (LimitedAdd j limit amount) steps (Limited made) =
    IsLimitedAdd (batch_at facts.base j.number) (unknown facts j.number) (present_cpus facts) own j limit amount steps
    made
IsPcpuCall facts (Some own) (Compare j rhs) steps (Compared answer) =
    IsCompare (unknown facts j.number) (present_cpus facts) j rhs steps answer
IsPcpuCall facts (Some own) (Sum j) steps (Total sum) = IsSum (present_cpus facts) j steps sum
IsPcpuCall facts (Some own) (Read j) steps (Count count) = IsRead j steps count
IsPcpuCall facts (Some own) (Sync j) steps Done = IsSync own j steps
IsPcpuCall facts None (FoldDead dead) steps Done = IsFoldDead dead (counters_of facts.base) steps
IsPcpuCall facts _ _ steps _ = ⊥

-- the steps of a call, whatever it answers, and of no call
abbrev pub MakesPcpuCall : PcpuFacts → Option CpuId → Option PcpuCall → List PcpuStep → Type 0
MakesPcpuCall facts who (Some call) steps = (answer : PcpuAnswer) × IsPcpuCall facts who call steps answer
MakesPcpuCall facts who None steps = steps ≡ []

-- a call names a counter of the table, or a dead CPU
abbrev pub NamesKnown : PcpuFacts → PcpuCall → Type 0
NamesKnown facts (Add j amount) = IsPcpu facts j.number
NamesKnown facts (LimitedAdd j limit amount) = IsPcpu facts j.number
NamesKnown facts (Compare j rhs) = IsPcpu facts j.number
NamesKnown facts (Sum j) = IsPcpu facts j.number
NamesKnown facts (Read j) = IsPcpu facts j.number
NamesKnown facts (Sync j) = IsPcpu facts j.number
NamesKnown facts (FoldDead dead) = IsCpu facts.layout dead.number × (cpu_at facts dead.number ≡ Dead)

-- the limit of a limited addition and the number of a comparison are at most so large
abbrev pub IsWithin : ℕ → PcpuCall → Type 0
IsWithin most (LimitedAdd j limit amount) = unsigned_abs limit ≤ most
IsWithin most (Compare j rhs) = unsigned_abs rhs ≤ most
IsWithin most _ = Unit {0}

-- it is one of a pass that owns a CPU
abbrev pub IsOwnersCall : PcpuCall → Type 0
IsOwnersCall (FoldDead dead) = ⊥
IsOwnersCall _ = Unit {0}

-- what a call may add to counter j, in size: also where a limited addition says no
abbrev pub pcpu_spent : PcpuCall → ℕ → ℕ
pcpu_spent (Add i amount) j = if nat_eq i.number j then unsigned_abs amount else 0
pcpu_spent (LimitedAdd i limit amount) j = if nat_eq i.number j then unsigned_abs amount else 0
pcpu_spent _ j = 0

-- the same of what may be no call
abbrev pub spent_by_call : Option PcpuCall → ℕ → ℕ
spent_by_call (Some call) j = pcpu_spent call j
spent_by_call None j = 0

-- whether an answer is that of a limited addition that was made
abbrev pub says_made : PcpuAnswer → Bool
says_made (Limited made) = made
says_made _ = false

-- what a call adds to it, where it gave this answer
abbrev pub pcpu_added : PcpuCall → PcpuAnswer → ℕ → ℤ
pcpu_added (Add i amount) answer j = if nat_eq i.number j then amount else pos 0
pcpu_added (LimitedAdd i limit amount) answer j =
    if nat_eq i.number j then (if says_made answer then amount else pos 0) else pos 0
pcpu_added _ answer j = pos 0

-- who has changed each counter by so much may change the call's by as much as the call may add
abbrev pub LeavesVolume : (ℕ → ℕ) → PcpuCall → Type 0
LeavesVolume changed (Add j amount) = changed j.number + unsigned_abs amount ≤ most_volume
LeavesVolume changed (LimitedAdd j limit amount) = changed j.number + unsigned_abs amount ≤ most_volume
LeavesVolume changed _ = Unit {0}

-- a pass may make a call: it lives and is idle, and the volume of the CPU that it owns allows what the call may add
pub record MayMakeCall (facts : PcpuFacts) (h : History) (p : ℕ) (who : Option CpuId) (call : PcpuCall)
    : Type 0 where
  pub calls : MayCall facts h p
  pub owner : owner_in role h p ≡ who
  pub known : NamesKnown facts call
  pub affordable : (own : CpuId) → who ≡ Some own → LeavesVolume (spent h own.number) call

-- then it may make the steps, whatever others do between them
abbrev pub MakesCalls : Type 0
MakesCalls = (facts : PcpuFacts) (h : History) (p : ℕ) (who : Option CpuId) (call : PcpuCall) (steps : List PcpuStep)
    (answer : PcpuAnswer) → MayMakeCall facts h p who call → IsPcpuCall facts who call steps answer →
    MayMake facts p h steps

-- steps that leave no lock held and nothing carried where it was so before, and add these amounts to the counters
pub record AddsAmounts (added : ℕ → ℤ) (steps : List PcpuStep) : Type 0 where
  pub no_lock : (j : ℕ) → holds_through j steps false ≡ false
  pub nothing_carried : (j : ℕ) → carried_through j steps (pos 0) ≡ pos 0
  pub amounts : (j : ℕ) → added_through as_is j steps (pos 0) ≡ added j
  pub sizes : (j : ℕ) → added_through size_of j steps (pos 0) ≡ size_of (added j)

-- a reading of steps as the answer of a call
abbrev pub answered : {A : Type 0} → (A → PcpuAnswer) → A × List PcpuStep → PcpuAnswer × List PcpuStep
answered tell reading = (tell reading.0, reading.1)

-- what the steps of a call answer, read from a list of steps that begins with them, and the steps after them
abbrev pub read_pcpu_call : PcpuFacts → PcpuCall → List PcpuStep → PcpuAnswer × List PcpuStep
read_pcpu_call facts (Add j amount) steps = answered (λ done. Done) (read_add steps)
read_pcpu_call facts (LimitedAdd j limit amount) steps = answered (λ made. Limited made) (read_limited_add amount steps)
read_pcpu_call facts (Compare j rhs) steps =
    answered (λ answer. Compared answer) (read_compare (unknown facts j.number) rhs steps)
read_pcpu_call facts (Sum j) steps = answered (λ sum. Total sum) (read_sum steps)
read_pcpu_call facts (Read j) steps = answered (λ count. Count count) (read_count steps)
read_pcpu_call facts (Sync j) steps = answered (λ done. Done) (read_sync steps)
read_pcpu_call facts (FoldDead dead) steps = answered (λ done. Done) (read_fold_dead (counters_of facts.base) steps)
