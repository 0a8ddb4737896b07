-- The goal was that the pass may go on.
use Rattle.std.proofs.Common.{◌≡◌, ◌+◌, ◌<◌, [], ◌∷◌, length, slice_index, slice_set, unsigned_abs, w64, to_z, of_z}
use Rattle.std.proofs.Common.{refl, ap, sym, subst, ◌∙◌, arith, length-set}
use Rattle.std.proofs.lemmas.Int.{to_z-of_z}
use Rattle.vms_group_core.specs.declared.call_values.GroupAnswer.TheVariants.{Done}
use Rattle.vms_group_core.specs.declared.call_values.GroupCall.TheVariants.{Change}
use Rattle.vms_group_core.specs.declared.steps.GroupFacts.{GroupFacts}
use Rattle.vms_group_core.specs.declared.steps.GroupStep.TheVariants.{AddP}
use Rattle.vms_group_core.specs.Common.{groups, IsGroup}
use Rattle.vms_group.specs.Common.{CpuPass, IsCpuPass}
use Rattle.vms_group.proofs.KnownPasses.{call-leaves, change-grows}
use Rattle.vms_group.proofs.tables.GroupTable.change_within.Goals as goal
use Rattle.vms_seats.specs.Common.{MadeOne}

pub invariant_of-pass : goal.invariant_of-pass
invariant_of-pass c =
    let g = c.args.group in
    let a = c.args.delta in
    let new = c.add_pending.new.worker in
    let old = c.pass.inside.worker in
    let volume = c.pass.inside.volume in
    let same : to_z w64 (of_z w64 a) ≡ a = to_z-of_z w64 a c.ranges.delta in
    let made = subst (λ x. MadeOne groups new old (AddP g x)) same c.add_pending.ensures in
    let size : c.unsigned_abs.result ≡ unsigned_abs a = c.unsigned_abs.ensures.value ∙ ap unsigned_abs same in
    let sum : c.get.result + c.unsigned_abs.result ≡ slice_index volume g + unsigned_abs a =
    omega (arith, size, c.get.ensures 0) in
    let grown = slice_set volume g (slice_index volume g + unsigned_abs a) in
    let group : IsGroup old.facts.tree g = subst (λ (f : GroupFacts). IsGroup f.tree g)
    (sym (ap (λ (p : CpuPass). p.pass.facts) c.pass.view_is ∙ c.requires.table.facts)) c.requires.group in
    let inside : g < length volume = (let each = c.pass.invariant.covers.one_each in omega arith) in
    subst (IsCpuPass new c.pass.inside.cpu) (sym (c.set.ensures ∙ ap (slice_set volume g) sum))
    (call-leaves new old c.pass.inside.cpu volume grown (Change g a) (AddP g a ∷ []) Done c.pass.invariant made.all
    (record { in_order = refl }) (length-set volume g (slice_index volume g + unsigned_abs a))
    (λ x x_in. change-grows volume g a inside x))
