-- The table of page counters, and what holds of each of its legal histories.
use Rattle.std.specs.Prelude.{◌≡◌, ℕ, suc, ◌≤◌, ℤ, ◌+ℤ◌, List, Option, unsigned_abs}
use Rattle.vms_history.specs.Common.{CpuId, MayOwnCpu, Shape, IsCpu, IsCounter, IsItem, own, Machine, begun_in}
use Rattle.vms_history.specs.Common.{sum_below}
use Rattle.vms_history.specs.declared.events.Event.{Event}
use Rattle.vms_history.specs.Legal as legal
use Rattle.vms_core.specs.declared.states.State.{State}
use Rattle.vms_core.specs.declared.steps.Facts.{Facts}
use Rattle.vms_core.specs.declared.steps.Step.{Step}
use Rattle.vms_core.specs.Bases.{IsBase}
use Rattle.vms_core.specs.Cells.{value_at, system_at, diff_at}
use Rattle.vms_core.specs.Conditions.{Meets}
use Rattle.vms_core.specs.Own.{CarriesNothing, carried, carried_of_item}
use Rattle.vms_core.specs.Steps.{role, effect}
use Rattle.vms_core.specs.Totals.{true_total, true_total_of_item, differentials, differentials_of_item, last_threshold}

-- a pass may own a CPU that is online, and a control pass may always begin
abbrev pub MayOwn : Facts → Option CpuId → Type 0
MayOwn facts who = MayOwnCpu facts.layout facts.base.cpu who

-- the page counters' table
abbrev pub pages : Machine Facts Step State
pages = record {
  role = role;
  base = λ facts. facts.base;
  effect = effect;
  CanBegin = IsBase;
  MayOwn = MayOwn;
  MayEnd = λ facts h. CarriesNothing facts.layout h;
  Meets = Meets;
}

-- a history of page steps, the newest first
abbrev pub History : Type 0
History = List (Event Step)

abbrev pub IsLegal : Facts → History → Type 0
IsLegal facts h = legal.IsLegal pages facts h

-- a legal history in which every pass has ended
abbrev pub IsComplete : Facts → History → Type 0
IsComplete facts h = legal.IsComplete pages facts h

abbrev pub state_after : Facts → History → State
state_after facts h = legal.state_after pages facts h

-- what all callers carry for counter k together
abbrev pub carried_by_all : History → ℕ → ℤ
carried_by_all h k = sum_below (λ p. carried k (own h p)) (suc (begun_in role h))

-- nothing is lost and nothing is counted twice: the global value of a counter, its differentials and what is carried
-- for it add up to its true total
abbrev pub KeepsTotals : Facts → History → Type 0
KeepsTotals facts h = (k : ℕ) → IsCounter facts.layout k →
    (value_at (state_after facts h) k +ℤ differentials facts.layout (state_after facts h) k) +ℤ carried_by_all h k
    ≡ true_total facts h k

-- what all callers carry for item i together
abbrev pub carried_of_item_by_all : Shape → History → ℕ → ℤ
carried_of_item_by_all shape h i = sum_below (λ p. carried_of_item shape i (own h p)) (suc (begun_in role h))

-- the same of an item: its system-wide value, the differentials of all its counters and what is carried for it
abbrev pub KeepsSystemTotals : Facts → History → Type 0
KeepsSystemTotals facts h = (i : ℕ) → IsItem facts.layout i →
    (system_at (state_after facts h) i +ℤ differentials_of_item facts.layout (state_after facts h) i)
    +ℤ carried_of_item_by_all facts.layout h i ≡ true_total_of_item facts h i

-- no differential is larger than the threshold that was used on it last
abbrev pub BoundsDifferentials : Facts → History → Type 0
BoundsDifferentials facts h = (c k : ℕ) → IsCpu facts.layout c → IsCounter facts.layout k →
    unsigned_abs (diff_at (state_after facts h) c k) ≤ last_threshold facts h c k
