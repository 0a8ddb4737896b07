-- The goals were that the flags so far are those of the subtree.
use Rattle.std.proofs.Common.{◌≡◌, ℕ, ◌<◌, ◌||◌, Bool, false, List, length, get_or, set, Option, Some, None, refl, ap}
use Rattle.std.proofs.Common.{sym, ◌∙◌, arith, nat_eq, length-set, get_or-set_same, get_or-set_other, inl, inr}
use Rattle.std.proofs.lemmas.Bool.{cases_eq}
use Rattle.vms_group_core.specs.declared.trees.Tree.{Tree}
use Rattle.vms_group_core.specs.Common.{in_subtree, parent_of, is_flagged}
use Rattle.vms_group_core.proofs.Common.{in_subtree-parent, parent_in}
use Rattle.vms_group.proofs.flushing.subtree_flags.Goals as goal

-- flags that are right for all groups above a group are right for its parent
flagged-above : (tree : Tree) (g number : ℕ) (flags : List Bool) (parent : Option ℕ)
    → ((k : ℕ) → k < number → get_or flags k false ≡ in_subtree tree g k)
    → ((y : ℕ) → parent ≡ Some y → y < number) → is_flagged flags parent ≡ parent_in tree g parent
flagged-above tree g number flags None each above = refl
flagged-above tree g number flags (Some y) each above = each y (above y refl)

pub is_flagged-above-requires : goal.is_flagged-above-requires
is_flagged-above-requires c y is =
    let above : y < c.loop-number.number =
    c.requires.parents_above c.loop-number.number y (c.get.ensures None ∙ is) in
    let most = c.requires.groups_most in
    let here = c.loop-number-test.true in
    let len = c.len-number-end.ensures.len in
    omega arith

pub loop-number-preserved : goal.loop-number-preserved
loop-number-preserved c =
    let number = c.loop-number.number in
    let flags = c.loop-number.flags in
    let tree = c.args.tree.now in
    let g = c.args.group in
    let most = c.requires.groups_most in
    let here = c.loop-number-test.true in
    let len = c.len-number-end.ensures.len in
    let long = c.loop-number.invariant.long in
    let inside : number < length flags = omega arith in
    let known : number < length tree.parents = omega arith in
    let flag : c.either.result ≡ in_subtree tree g number =
    c.either.ensures ∙ ap (λ b. nat_eq number g || b)
    (c.is_flagged-above.ensures ∙ ap (is_flagged flags) (sym (c.get.ensures None))
    ∙ flagged-above tree g number flags (parent_of tree number) c.loop-number.invariant.each
    (λ y up. c.requires.parents_above number y up))
    ∙ sym (in_subtree-parent tree c.requires g number known) in
    record {
      long = length-set flags number c.either.result ∙ long;
      each = λ k below. elim (cases_eq k number) [
        | inl same ↦
            ap (λ i. get_or (set flags number c.either.result) i false) same
            ∙ get_or-set_same flags number c.either.result false inside ∙ flag ∙ ap (in_subtree tree g) (sym same)
        | inr other ↦
            get_or-set_other flags number k c.either.result false other
            ∙ c.loop-number.invariant.each k (omega arith)
      ];
    }
