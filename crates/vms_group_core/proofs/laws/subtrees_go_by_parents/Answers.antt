-- The flags go by the parents.
use Rattle.vms_group_core.proofs.Flags.{in_subtree-itself, in_subtree-child, in_subtree-top, in_subtree-above}
use Rattle.vms_group_core.proofs.laws.subtrees_go_by_parents.Goals as goal

pub returns : goal.returns
returns c = record {
  itself = λ tree g is. in_subtree-itself tree is g;
  child = λ tree g x y is. in_subtree-child tree is g x y;
  top = λ tree g x is. in_subtree-top tree is g x;
  above = λ tree g x is. in_subtree-above tree is g x;
}
