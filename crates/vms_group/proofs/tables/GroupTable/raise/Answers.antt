-- The goals were that the parent is a group, that the amount is carried for it, and what was made.
use Rattle.std.proofs.Common.{◌≡◌, ◌<◌, Some, None, w64, to_z, of_z, ap, sym, subst, ◌∙◌, arith}
use Rattle.std.proofs.lemmas.Int.{to_z-of_z}
use Rattle.vms_group_core.specs.declared.steps.GroupFacts.{GroupFacts}
use Rattle.vms_group_core.specs.declared.steps.GroupStep.TheVariants.{AddV, AddU}
use Rattle.vms_group_core.specs.Common.{groups, IsGroup, parent_of}
use Rattle.vms_group.proofs.FlushedGroups.{raised-carries, raised-both}
use Rattle.vms_group.proofs.tables.GroupTable.raise.Goals as goal
use Rattle.vms_seats.specs.Common.{MadeOne, Shared}

pub add_up-requires-clause-group : goal.add_up-requires-clause-group
add_up-requires-clause-group c =
    let same = sym c.self.invariant.same ∙ ap (λ (s : Shared GroupFacts). s.facts) c.self.view_is in
    let tree = c.self.inside.facts.tree in
    let up : parent_of tree c.args.group ≡ Some c.in-Some.parent = c.get-parent.ensures None ∙ c.in-Some.is in
    let above : c.in-Some.parent < c.args.group =
    c.self.invariant.base.tree.parents_above c.args.group c.in-Some.parent up in
    let group : IsGroup tree c.args.group =
    subst (λ (f : GroupFacts). IsGroup f.tree c.args.group) (sym same) c.requires.group in
    let known : IsGroup tree c.in-Some.parent = omega arith in
    subst (λ (f : GroupFacts). IsGroup f.tree c.in-Some.parent) same known

pub add_up-requires-clause-carries : goal.add_up-requires-clause-carries
add_up-requires-clause-carries c =
    let same = sym c.self.invariant.same ∙ ap (λ (s : Shared GroupFacts). s.facts) c.self.view_is in
    let up : parent_of c.self.inside.facts.tree c.args.group ≡ Some c.in-Some.parent =
    c.get-parent.ensures None ∙ c.in-Some.is in
    raised-carries c.args.self.now.facts.tree c.args.group c.in-Some.parent (to_z w64 (of_z w64 c.args.amount))
    c.add_value.new.worker c.args.worker.now c.add_value.ensures
    (ap (λ (f : GroupFacts). parent_of f.tree c.args.group) (sym same) ∙ up)

pub returns-in-Some : goal.returns-in-Some
returns-in-Some c =
    let facts = sym c.self.invariant.same ∙ ap (λ (s : Shared GroupFacts). s.facts) c.self.view_is in
    let up : parent_of c.self.inside.facts.tree c.args.group ≡ Some c.in-Some.parent =
    c.get-parent.ensures None ∙ c.in-Some.is in
    let same : to_z w64 (of_z w64 c.args.amount) ≡ c.args.amount = to_z-of_z w64 c.args.amount c.ranges.amount in
    let mid = c.add_value.new.worker in
    raised-both c.args.group c.in-Some.parent c.args.amount c.add_up.new.worker mid c.args.worker.now
    (parent_of c.args.self.now.facts.tree c.args.group)
    (ap (λ (f : GroupFacts). parent_of f.tree c.args.group) (sym facts) ∙ up)
    (subst (λ a. MadeOne groups mid c.args.worker.now (AddV c.args.group a)) same c.add_value.ensures)
    (subst (λ a. MadeOne groups c.add_up.new.worker mid (AddU c.in-Some.parent a)) same c.add_up.ensures)
