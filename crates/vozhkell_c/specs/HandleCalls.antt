-- The calls of handles, with what each result of them means: the clauses of `vms_counters` by name.
use Rattle.std.specs.Prelude.{◌≡◌, ◌≢◌, ℕ, nat_eq, ℤ, Bool, true, false, if◌then◌else◌, pos, negsuc, Option, Some, None}
use Rattle.std.specs.Prelude.{Result, IfOk, MatchResult}
use Rattle.vms_base.specs.declared.kinds.Mode.TheVariants.{Dec, Inc, Mod}
use Rattle.vms_world.specs.Common.{Balance, OrderVerdict, WaterMark, High, Verdict, CounterId, CpuId, IsCounter, IsCpu}
use Rattle.vms_world.specs.Common.{IsFold, IsItem, IsPlaceValue, IsSnapshot, IsSystemValue, IsWatermarkTest, ItemId}
use Rattle.vms_world.specs.Common.{PlaceId, free_pages, limit_of}
use Rattle.vms_base.specs.declared.kinds.WaterMark.TheVariants.{Low, Min}
use Rattle.vms_count.specs.Common.{owns_cpu}
use Rattle.vms_calls.specs.Turns.{IsBalanceTest, IsOrderTest}
use Rattle.vms_kswapd.specs.Common.{CountsBlocks, NamesPassed}
use Rattle.vms_look.specs.Common.{SaysTruly, SumsTruly, TellsTruly}
use Rattle.vms_counters.specs.Calls as calls
use Rattle.vms_counters.specs.Calls.{Changes, IsNodeTest, IsZoneTest, Makes, Refuses, RefusesChange, RefusesNodeTest}
use Rattle.vms_counters.specs.Calls.{RefusesOrderTest, RefusesZoneTest, layout_of}
use Rattle.vms_counters.specs.Handles.{AnyHandle, EventHandle, OnEvents, OnPages, OnPcpu, PageHandle, PcpuHandle}
use Rattle.vms_counters.specs.declared.errors.CallError.{CallError}
use Rattle.vms_counters.specs.declared.errors.CallError.TheVariants.{NoCounter, NoCpu, NoItem}
use Rattle.vozhkell_c.specs.Calls.{Tells}
use Rattle.vozhkell_c.specs.Statuses.{call_status, no_mark}
use Rattle.vozhkell_c.specs.declared.handle_calls.WatermarkAnswer.{WatermarkAnswer}

-- a call of a handle on the page counters, which leaves the handle in the other tables as it was; likewise on the
-- events and on the percpu counters
abbrev pub WithPages : {V : Type 0} → (PageHandle → PageHandle → Result V CallError → Type 0) → AnyHandle → AnyHandle
    → Result V CallError → Type 0
WithPages IsMade new old result = IsMade new.page old.page result × OnPages new old

abbrev pub WithEvents : {V : Type 0} → (EventHandle → EventHandle → Result V CallError → Type 0) → AnyHandle → AnyHandle
    → Result V CallError → Type 0
WithEvents IsMade new old result = IsMade new.event old.event result × OnEvents new old

abbrev pub WithPcpu : {V : Type 0} → (PcpuHandle → PcpuHandle → Result V CallError → Type 0) → AnyHandle → AnyHandle
    → Result V CallError → Type 0
WithPcpu IsMade new old result = IsMade new.pcpu old.pcpu result × OnPcpu new old

-- a change by a number of pages
abbrev pub IsAdd : CounterId → ℤ → PageHandle → PageHandle → Result (Unit {0}) CallError → Type 0
IsAdd k pages new old result =
    MatchResult result (λ _. Changes new old k pages Mod) (RefusesChange new old k pages)

abbrev pub IsInc : CounterId → PageHandle → PageHandle → Result (Unit {0}) CallError → Type 0
IsInc k new old result =
    MatchResult result (λ _. Changes new old k (pos 1) Inc) (RefusesChange new old k (pos 1))

abbrev pub IsDec : CounterId → PageHandle → PageHandle → Result (Unit {0}) CallError → Type 0
IsDec k new old result =
    MatchResult result (λ _. Changes new old k (negsuc 0) Dec) (RefusesChange new old k (negsuc 0))

-- a fold of a CPU
abbrev pub IsFolded : CpuId → PageHandle → PageHandle → Result (Unit {0}) CallError → Type 0
IsFolded cpu new old result = MatchResult result
    (λ _. Makes (IsCpu (layout_of old) cpu.number) (IsFold (layout_of old) (owns_cpu old.pass.cpu cpu) cpu) new old)
    (Refuses (IsCpu (layout_of old) cpu.number) (NoCpu cpu.number) new old)

-- the value of a counter
abbrev pub IsValue : CounterId → PageHandle → PageHandle → Result ℕ CallError → Type 0
IsValue k new old result = MatchResult result
    (λ value. Makes (IsCounter (layout_of old) k.number) (λ steps. IsPlaceValue k steps value) new old)
    (Refuses (IsCounter (layout_of old) k.number) (NoCounter k.number) new old)

-- the system-wide value of an item
abbrev pub IsSystem : ItemId → PageHandle → PageHandle → Result ℕ CallError → Type 0
IsSystem item new old result = MatchResult result
    (λ value. Makes (IsItem (layout_of old) item.number) (λ steps. IsSystemValue item steps value) new old)
    (Refuses (IsItem (layout_of old) item.number) (NoItem item.number) new old)

-- a snapshot of a counter, and what was true of it
abbrev pub IsSnap : CounterId → PageHandle → PageHandle → Result ℕ CallError → Type 0
IsSnap k new old result =
    MatchResult result
    (λ value. Makes (IsCounter (layout_of old) k.number) (λ steps. IsSnapshot (layout_of old) k steps value) new old)
    (Refuses (IsCounter (layout_of old) k.number) (NoCounter k.number) new old)
    × IfOk result (SumsTruly new.pass old.pass k)

-- a test of a watermark, and what was true of its answer
pub record IsTest (zone : PlaceId) (mark : WaterMark) (most : ℕ) (new old : PageHandle)
    (result : Result Verdict CallError) : Type 0 where
  pub made : MatchResult result
      (λ verdict. Makes (IsZoneTest (layout_of old) zone most)
      (λ steps. IsWatermarkTest old.header zone mark most steps verdict) new old)
      (RefusesZoneTest new old zone most)
  pub near : IfOk result (λ verdict. verdict.fast ≡ true → TellsTruly new.pass old.pass zone verdict.free)
  pub truly : IfOk result (λ verdict. verdict.yes ≡ true → verdict.fast ≡ true →
      SaysTruly new.pass old.pass zone (limit_of old.header zone.number mark most))
  pub summed : IfOk result (λ verdict. verdict.fast ≡ false →
      SumsTruly new.pass old.pass (free_pages (layout_of old) zone) verdict.free)

-- a test for a free block of an order, and what was true of its answer
pub record IsOrderedTest (zone : PlaceId) (mark : WaterMark) (order most : ℕ) (new old : PageHandle)
    (result : Result OrderVerdict CallError) : Type 0 where
  pub made : MatchResult result
      (λ verdict. Makes (calls.IsOrderedTest (layout_of old) zone order most)
      (λ steps. IsOrderTest old.header zone mark most order steps verdict) new old)
      (RefusesOrderTest new old zone order most)
  pub near : IfOk result (λ verdict. verdict.fast ≡ true → TellsTruly new.pass old.pass zone verdict.free)
  pub truly : IfOk result (λ verdict. verdict.yes ≡ true → verdict.fast ≡ true →
      SaysTruly new.pass old.pass zone (limit_of old.header zone.number mark most))
  pub summed : IfOk result (λ verdict. verdict.fast ≡ false →
      SumsTruly new.pass old.pass (free_pages (layout_of old) zone) verdict.free)
  pub counts : IfOk result (λ verdict. verdict.yes ≡ true → order ≢ 0 →
      CountsBlocks old.header new.pass old.pass zone order verdict.area)

-- a balance test of a node, and what was true of a yes
abbrev pub IsBalanced : PlaceId → ℕ → ℕ → PageHandle → PageHandle → Result Balance CallError → Type 0
IsBalanced node order most new old result =
    MatchResult result
    (λ balance. Makes (IsNodeTest (layout_of old) node order most)
    (λ steps. IsBalanceTest old.header node order most steps balance) new old)
    (RefusesNodeTest new old node order most)
    × IfOk result (NamesPassed old.header new.pass old.pass node order most)

-- the watermark of a number
abbrev pub mark_of : ℕ → Option WaterMark
mark_of n =
    if nat_eq n 0 then Some Min else if nat_eq n 1 then Some Low else if nat_eq n 2 then Some High else None

abbrev pub as_number : Bool → ℕ
as_number is = if is then 1 else 0

-- what C is shown of the answer of a test
abbrev pub shown_answer : Verdict → WatermarkAnswer
shown_answer verdict = record { free = verdict.free; yes = as_number verdict.yes; fast = as_number verdict.fast }

-- a test of the watermark of a number. Where no watermark has the number, nothing changes
abbrev pub TestsMark : PlaceId → Option WaterMark → ℕ → Option AnyHandle → Option AnyHandle → WatermarkAnswer
    → WatermarkAnswer → ℤ → Type 0
TestsMark zone None most new old after before status = (status ≡ no_mark) × (new ≡ old) × (after ≡ before)
TestsMark zone (Some mark) most new old after before status =
    Tells call_status shown_answer (WithPages (IsTest zone mark most)) new old after before status

abbrev pub Tests : PlaceId → ℕ → ℕ → Option AnyHandle → Option AnyHandle → WatermarkAnswer → WatermarkAnswer → ℤ
    → Type 0
Tests zone mark most new old after before status = TestsMark zone (mark_of mark) most new old after before status
