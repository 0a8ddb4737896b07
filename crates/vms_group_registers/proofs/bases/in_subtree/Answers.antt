-- A group is in a subtree where its parent is, and not where it has none.
use Rattle.std.proofs.Common.{◌≡◌, Some, None, sym, ap, subst, ◌∙◌, arith}
use Rattle.vms_group_core.specs.Common.{IsGroup, in_subtree as in_subtree_of, parent_of}
use Rattle.vms_group_core.proofs.Flags.{in_subtree-child, in_subtree-itself, in_subtree-top}
use Rattle.vms_group_registers.proofs.bases.in_subtree.Goals as goal

pub loop-at-smaller : goal.loop-at-smaller
loop-at-smaller c =
    c.requires.tree.parents_above c.loop-at.at c.in-Some.parent (c.get.ensures None ∙ c.in-Some.is)

pub loop-at-preserved : goal.loop-at-preserved
loop-at-preserved c =
    let up : parent_of c.args.tree.now c.loop-at.at ≡ Some c.in-Some.parent = c.get.ensures None ∙ c.in-Some.is in
    let less = c.requires.tree.parents_above c.loop-at.at c.in-Some.parent up in
    let known = c.loop-at.invariant.known in
    record {
      known = omega arith;
      same =
          c.loop-at.invariant.same
          ∙ in_subtree-child c.args.tree.now c.requires.tree c.args.group c.loop-at.at c.in-Some.parent known
          c.loop-at-test.true up;
    }

pub returns-in-None : goal.returns-in-None
returns-in-None c =
    sym (c.loop-at.invariant.same
    ∙ in_subtree-top c.args.tree.now c.requires.tree c.args.group c.loop-at.at c.loop-at.invariant.known
    c.loop-at-test.true (c.get.ensures None ∙ c.in-None.is))

pub returns : goal.returns
returns c =
    let here : c.loop-at.at ≡ c.args.group = c.loop-at-test.false in
    sym (c.loop-at.invariant.same
    ∙ ap (in_subtree_of c.args.tree.now c.args.group) here
    ∙ in_subtree-itself c.args.tree.now c.requires.tree c.args.group
    (subst (IsGroup c.args.tree.now) here c.loop-at.invariant.known))
