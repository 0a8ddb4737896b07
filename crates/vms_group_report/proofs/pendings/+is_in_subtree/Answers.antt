-- A group is in a subtree if it is the top, or if its parent is in it.
use Rattle.std.proofs.Common.{◌≡◌, ◌<◌, ◌||◌, Bool, true, false, Option, Some, None, nat_eq, arith, ap, ap₂, sym, ◌∙◌}
use Rattle.std.proofs.lemmas.Bool.Decides.{nat_tests}
use Rattle.vms_group_core.specs.Common.{parent_of}
use Rattle.vms_group_core.proofs.Common.{in_subtree-parent, parent_in}
use Rattle.vms_group_report.proofs.pendings.+is_in_subtree.Goals as goal

pub returns-then-group-top : goal.returns-then-group-top
returns-then-group-top t c =
    let tree = c.args.tree.now in
    let top = c.args.top in
    let group = c.args.group in
    let same : nat_eq group top ≡ true = grind (arith, nat_tests, c.if-group-top.true) in
    sym (in_subtree-parent tree c.requires.tree top group c.requires.group
    ∙ ap (λ (b : Bool). b || parent_in tree top (parent_of tree group)) same)

pub is_in_subtree-requires : goal.is_in_subtree-requires
is_in_subtree-requires t c =
    let tree = c.args.tree.now in
    let up : parent_of tree c.args.group ≡ Some c.in-Some.parent = c.get.ensures None ∙ c.in-Some.is in
    let above : c.in-Some.parent < c.args.group =
    c.requires.tree.parents_above c.args.group c.in-Some.parent up in
    let group = c.requires.group in
    (omega (arith, above, c.decreases), (c.requires.tree, omega (arith, above, group)))

pub returns-in-None : goal.returns-in-None
returns-in-None t c =
    let tree = c.args.tree.now in
    let top = c.args.top in
    let group = c.args.group in
    let other : nat_eq group top ≡ false = grind (arith, nat_tests, c.if-group-top.false) in
    let up : parent_of tree group ≡ None = c.get.ensures None ∙ c.in-None.is in
    sym (in_subtree-parent tree c.requires.tree top group c.requires.group
    ∙ ap₂ (λ (b : Bool) (p : Option _). b || parent_in tree top p) other up)

pub returns-in-Some : goal.returns-in-Some
returns-in-Some t c =
    let tree = c.args.tree.now in
    let top = c.args.top in
    let group = c.args.group in
    let other : nat_eq group top ≡ false = grind (arith, nat_tests, c.if-group-top.false) in
    let up : parent_of tree group ≡ Some c.in-Some.parent = c.get.ensures None ∙ c.in-Some.is in
    c.is_in_subtree.ensures
    ∙ sym (in_subtree-parent tree c.requires.tree top group c.requires.group
    ∙ ap₂ (λ (b : Bool) (p : Option _). b || parent_in tree top p) other up)
