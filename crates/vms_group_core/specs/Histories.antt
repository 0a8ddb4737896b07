-- The machine of a tree of groups, and its legal histories.
use Rattle.std.specs.Prelude.{List, Option, Some, None}
use Rattle.vms_history.specs.Common.{CpuId, Machine}
use Rattle.vms_history.specs.declared.events.Event.{Event}
use Rattle.vms_history.specs.Legal as legal
use Rattle.vms_group_core.specs.declared.states.GroupState.{GroupState}
use Rattle.vms_group_core.specs.declared.steps.GroupFacts.{GroupFacts}
use Rattle.vms_group_core.specs.declared.steps.GroupStep.{GroupStep}
use Rattle.vms_group_core.specs.Bases.{IsBase}
use Rattle.vms_group_core.specs.Conditions.{Meets}
use Rattle.vms_group_core.specs.Own.{CarriesNothing}
use Rattle.vms_group_core.specs.Steps.{role, effect}
use Rattle.vms_group_core.specs.Trees.{IsTreeCpu}

-- a pass may own any CPU, or none
abbrev pub MayOwn : GroupFacts → Option CpuId → Type 0
MayOwn facts (Some c) = IsTreeCpu facts.tree c.number
MayOwn facts None = Unit {0}

-- the table of a tree of groups
abbrev pub groups : Machine GroupFacts GroupStep GroupState
groups = record {
  role = role;
  base = λ facts. facts.base;
  effect = effect;
  CanBegin = IsBase;
  MayOwn = MayOwn;
  MayEnd = λ facts h. CarriesNothing facts.tree h;
  Meets = Meets;
}

-- a history of steps on a tree of groups, the newest first
abbrev pub History : Type 0
History = List (Event GroupStep)

abbrev pub IsLegal : GroupFacts → History → Type 0
IsLegal facts h = legal.IsLegal groups facts h

abbrev pub IsComplete : GroupFacts → History → Type 0
IsComplete facts h = legal.IsComplete groups facts h

abbrev pub state_after : GroupFacts → History → GroupState
state_after facts h = legal.state_after groups facts h
