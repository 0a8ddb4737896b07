-- The calls of handles on events and on percpu counters, with what each result of them means: the clauses of
-- `vms_counters` by name.
use Rattle.std.specs.Prelude.{◌≡◌, ◌≢◌, ℕ, ℤ, Bool, pos, Result, IfOk, MatchResult}
use Rattle.vms_base.specs.declared.ids.EventId.{EventId}
use Rattle.vms_base.specs.declared.ids.PcpuId.{PcpuId}
use Rattle.vms_pcpu.specs.Common.{LimitedAddMeans, SumMeans}
use Rattle.vms_world.specs.Common.{PcpuAnswer, Limited, PcpuCall, Add, LimitedAdd, Read}
use Rattle.vms_pcpu_core.specs.declared.answers.PcpuAnswer.TheVariants.{Count, Done, Total}
use Rattle.vms_pcpu_core.specs.declared.pcpu_calls.PcpuCall.TheVariants.{Sum, Sync}
use Rattle.vms_counters.specs.EventCalls.{Counts, RefusesCount, RefusesSum, SumsEvent}
use Rattle.vms_counters.specs.Handles.{EventHandle, PcpuHandle}
use Rattle.vms_counters.specs.PcpuCalls.{MakesPcpu, RefusesPcpu, RefusesTry}
use Rattle.vms_counters.specs.declared.errors.CallError.{CallError}

-- a count of an event
abbrev pub IsCounted : EventId → ℕ → EventHandle → EventHandle → Result (Unit {0}) CallError → Type 0
IsCounted k times new old result =
    MatchResult result (λ _. Counts new old k times) (RefusesCount new old k times)

-- a sum of an event
abbrev pub IsEventSum : EventId → EventHandle → EventHandle → Result ℕ CallError → Type 0
IsEventSum k new old result = MatchResult result (SumsEvent new old k) (RefusesSum new old k)

-- a call on a percpu counter that may give the counter's lock up
abbrev pub IsTried : {V : Type 0} → PcpuCall → (V → PcpuAnswer) → PcpuHandle → PcpuHandle → Result V CallError → Type 0
IsTried call answer new old result =
    MatchResult result (λ value. MakesPcpu call new old (answer value)) (RefusesTry call new old)

-- a reading of the shared part, which needs no lock
abbrev pub IsRead : PcpuId → PcpuHandle → PcpuHandle → Result ℤ CallError → Type 0
IsRead j new old result =
    MatchResult result (λ count. MakesPcpu (Read j) new old (Count count)) (RefusesPcpu (Read j) new old)

abbrev pub IsAdded : PcpuId → ℤ → PcpuHandle → PcpuHandle → Result (Unit {0}) CallError → Type 0
IsAdded j amount new old result = IsTried (Add j amount) (λ _. Done) new old result

abbrev pub IsSynced : PcpuId → PcpuHandle → PcpuHandle → Result (Unit {0}) CallError → Type 0
IsSynced j new old result = IsTried (Sync j) (λ _. Done) new old result

-- a sum and a limited addition, and what is true of their answers
abbrev pub IsSummed : PcpuId → PcpuHandle → PcpuHandle → Result ℤ CallError → Type 0
IsSummed j new old result =
    IsTried (Sum j) (λ sum. Total sum) new old result × IfOk result (SumMeans new.pass old.pass j)

abbrev pub IsLimited : PcpuId → ℤ → ℤ → PcpuHandle → PcpuHandle → Result Bool CallError → Type 0
IsLimited j limit amount new old result =
    IsTried (LimitedAdd j limit amount) (λ yes. Limited yes) new old result
    × (amount ≢ pos 0 → IfOk result (LimitedAddMeans new.pass old.pass j limit amount))
