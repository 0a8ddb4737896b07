-- The goal was that the pass may go on.
use Rattle.std.proofs.Common.{[], ◌∷◌, refl, arith}
use Rattle.vms_group_core.specs.declared.call_values.GroupAnswer.TheVariants.{Value as Answers}
use Rattle.vms_group_core.specs.declared.call_values.GroupCall.TheVariants.{Value}
use Rattle.vms_group_core.specs.declared.steps.GroupStep.TheVariants.{LoadV}
use Rattle.vms_group.proofs.KnownPasses.{call-leaves}
use Rattle.vms_group.proofs.tables.GroupTable.value.Goals as goal

pub invariant_of-pass : goal.invariant_of-pass
invariant_of-pass c =
    call-leaves c.load_value.new.worker c.pass.inside.worker c.pass.inside.cpu c.pass.inside.volume c.pass.inside.volume
    (Value c.args.group) (LoadV c.args.group c.load_value.result ∷ []) (Answers c.load_value.result) c.pass.invariant
    c.load_value.ensures.all (record { in_order = refl }) refl (λ g g_in. omega arith)
