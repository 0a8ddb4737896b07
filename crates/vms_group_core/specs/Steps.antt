-- What each kind of step does to the passes and to the words.
use Rattle.std.specs.Prelude.{ℕ, ℤ, pos, ◌+ℤ◌, Option, Some, None}
use Rattle.vms_history.specs.Common.{CpuId, Role, Works, Begins, Ends}
use Rattle.vms_group_core.specs.declared.states.GroupState.{GroupState}
use Rattle.vms_group_core.specs.declared.steps.GroupFacts.{GroupFacts}
use Rattle.vms_group_core.specs.declared.steps.GroupStep.{GroupStep}
use Rattle.vms_group_core.specs.declared.steps.GroupStep.TheVariants.{AddP, TakeP, TakeU, AddV, AddU, Split, Join}
use Rattle.vms_group_core.specs.declared.trees.Tree.{Tree}
use Rattle.vms_group_core.specs.Words.{value_at, up_at, pending_at, with_value, with_up, with_pending}

-- a Split begins a pass and a Join ends one
abbrev pub role : GroupStep → Role
role (Split q who) = Begins q who
role (Join q) = Ends q
role _ = Works

-- an amount is added to the pending word of the CPU that the pass owns
abbrev pub with_own_added : Tree → Option CpuId → ℕ → ℤ → GroupState → GroupState
with_own_added tree None g a s = s
with_own_added tree (Some c) g a s = with_pending tree s c.number g (pending_at tree s c.number g +ℤ a)

-- the words after a step: a take leaves 0, and every kind that isn't named leaves them
abbrev pub effect : GroupFacts → Option CpuId → GroupStep → GroupState → GroupState
effect facts who (AddP g a) s = with_own_added facts.tree who g a s
effect facts who (TakeP c g v) s = with_pending facts.tree s c.number g (pos 0)
effect facts who (TakeU g v) s = with_up s g (pos 0)
effect facts who (AddV g a) s = with_value s g (value_at s g +ℤ a)
effect facts who (AddU g a) s = with_up s g (up_at s g +ℤ a)
effect facts who _ s = s
