-- The plans of the calls that look at values and test them.
use Rattle.std.specs.Prelude.{ℕ, suc, zero, nat_lt, Bool, true, false, ℤ, ◌+ℤ◌}
use Rattle.vms_calls.specs.Common.{Header, CounterId, ItemId, PlaceId, WaterMark, Shape, group_of, limit_of}
use Rattle.vms_calls.specs.Common.{at_least_zero, free_pages, is_doubtful}
use Rattle.vms_calls.specs.declared.answers.Verdict.{Verdict}
use Rattle.vms_calls.specs.LookReadings.{value_told, differential_told, mark_told, online_told}
use Rattle.vms_plans.specs.declared.due_steps.DueStep.TheVariants.{LoadsGroup, LoadsValue, LoadsSystem, LoadsMark}
use Rattle.vms_plans.specs.declared.due_steps.DueStep.TheVariants.{LoadsState}
use Rattle.vms_plans.specs.Plans.{Plan, ends, waits, either, and_then}

-- the value of a counter, and of an item
abbrev pub value_plan : CounterId → Plan ℕ
value_plan k = waits (LoadsValue k) (λ load. ends (at_least_zero (value_told load)))

abbrev pub system_plan : ItemId → Plan ℕ
system_plan i = waits (LoadsSystem i) (λ load. ends (at_least_zero (value_told load)))

-- looks at n CPUs from CPU c on, for counter k, with `sum` before: the differentials of an online CPU are loaded
abbrev pub looks_plan : CounterId → ℕ → ℕ → ℤ → Plan ℕ
looks_plan k c zero sum = ends (at_least_zero sum)
looks_plan k c (suc n) sum = waits (LoadsState (record { number = c })) (λ state.
    either (online_told state)
    (waits (LoadsGroup (record { number = c }) (record { number = group_of k.number }))
    (λ load. looks_plan k (suc c) n (sum +ℤ differential_told k.number load)))
    (looks_plan k (suc c) n sum))

-- a snapshot: the global value, and then a look at each CPU
abbrev pub snapshot_plan : Shape → CounterId → Plan ℕ
snapshot_plan shape k = waits (LoadsValue k) (λ load. looks_plan k 0 shape.cpus (value_told load))

-- the verdict on so many free pages
abbrev pub tested : Header → PlaceId → WaterMark → ℕ → Bool → ℕ → Verdict
tested header g mark most fast free =
    record { yes = nat_lt (limit_of header g.number mark most) free; free = free; fast = fast }

-- what follows the three loads of a test: a snapshot where there is doubt
abbrev pub frees_plan : Header → PlaceId → WaterMark → ℕ → Bool → ℤ → Plan Verdict
frees_plan header g mark most true value = and_then (snapshot_plan header.layout (free_pages header.layout g))
    (λ free. ends (tested header g mark most false free))
frees_plan header g mark most false value = ends (tested header g mark most true (at_least_zero value))

-- a test of a watermark: the mark is loaded before the free pages and again after them
abbrev pub test_plan : Header → PlaceId → WaterMark → ℕ → Plan Verdict
test_plan header g mark most = waits (LoadsMark g) (λ first. waits (LoadsValue (free_pages header.layout g))
    (λ load. waits (LoadsMark g) (λ second. frees_plan header g mark most
    (is_doubtful (mark_told first) (value_told load) (mark_told second)) (value_told load))))
