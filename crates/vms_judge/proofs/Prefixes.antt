-- The history of the first events of a list.
use Rattle.std.proofs.Common.{◌≡◌, ℕ, List, ◌++◌, take, drop, sym, ap, ◌∙◌, subst}
use Rattle.std.specs.Prelude.{reverse}
use Rattle.std.proofs.lemmas.List.{reverse-append, take-append-drop}
use Rattle.vms_history.specs.declared.events.Event.{Event}
use Rattle.vms_history.specs.Common.{Machine, IsLegal}
use Rattle.vms_history.proofs.Common.{prefix_is_legal}

module _ {F K S : Type 0} (machine : Machine F K S) (facts : F) where
  -- the first events of a legal history are a legal history
  pub legal_first : (xs : List (Event K)) (n : ℕ) → IsLegal machine facts (reverse xs)
      → IsLegal machine facts (reverse (take n xs))
  legal_first xs n legal =
      let parts : reverse xs ≡ reverse (drop n xs) ++ reverse (take n xs) =
      ap reverse (sym (take-append-drop n xs)) ∙ reverse-append (take n xs) (drop n xs) in
      prefix_is_legal machine facts (reverse (drop n xs)) (reverse (take n xs))
      (subst (IsLegal machine facts) parts legal)
