-- The table of event counters, and what holds of each of its legal histories.
use Rattle.std.specs.Prelude.{ℕ, suc, ℤ, ◌+ℤ◌, List, Option}
use Rattle.vms_history.specs.Common.{CpuId, MayOwnCpu, own, total, Machine, begun_in, sum_below}
use Rattle.vms_history.specs.declared.events.Event.{Event}
use Rattle.vms_history.specs.Legal as legal
use Rattle.vms_event_core.specs.declared.states.EventState.{EventState}
use Rattle.vms_event_core.specs.declared.steps.EventFacts.{EventFacts}
use Rattle.vms_event_core.specs.declared.steps.EventStep.{EventStep}
use Rattle.vms_event_core.specs.Words.{sum_of_words}
use Rattle.vms_event_core.specs.Steps.{role, effect}
use Rattle.vms_event_core.specs.Own.{carried, CarriesNothing}
use Rattle.vms_event_core.specs.Totals.{counted}
use Rattle.vms_event_core.specs.Bases.{IsBase}
use Rattle.vms_event_core.specs.Conditions.{Meets}

-- a pass may own a CPU that is online, and a control pass may always begin
abbrev pub MayOwn : EventFacts → Option CpuId → Type 0
MayOwn facts who = MayOwnCpu facts.layout facts.cpus who

-- the event counters' table
abbrev pub events : Machine EventFacts EventStep EventState
events = record {
  role = role;
  base = λ facts. facts.base;
  effect = effect;
  CanBegin = IsBase;
  MayOwn = MayOwn;
  MayEnd = λ facts h. CarriesNothing h;
  Meets = Meets;
}

-- a history of event steps, the newest first
abbrev pub History : Type 0
History = List (Event EventStep)

abbrev pub IsLegal : EventFacts → History → Type 0
IsLegal facts h = legal.IsLegal events facts h

abbrev pub IsComplete : EventFacts → History → Type 0
IsComplete facts h = legal.IsComplete events facts h

abbrev pub state_after : EventFacts → History → EventState
state_after facts h = legal.state_after events facts h

-- what all callers carry for event k together
abbrev pub carried_by_all : History → ℕ → ℤ
carried_by_all h k = sum_below (λ p. carried k (own h p)) (suc (begun_in role h))

-- the words of the base and every count since: what an event is in truth
abbrev pub true_total : EventFacts → History → ℕ → ℤ
true_total facts h k = sum_of_words facts.layout facts.base k +ℤ total (counted k) h
