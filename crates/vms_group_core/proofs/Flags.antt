-- For other crates too: the flags of a subtree say which groups are in it: the group itself, and whose parent is.
use Rattle.std.proofs.Common.{◌≡◌, ◌≢◌, ℕ, zero, suc, ◌+◌, ◌<◌, ◌||◌, Bool, true, false, List, [], ◌∷◌, ◌++◌, length}
use Rattle.std.proofs.Common.{get_or, Option, Some, None, refl, sym, ap, subst, ◌∙◌, arith, nat_eq, eq-eqb}
use Rattle.std.proofs.Common.{length-append}
use Rattle.std.proofs.lemmas.Bool.{ne_eqb}
use Rattle.vms_group_core.specs.declared.trees.Tree.{Tree}
use Rattle.vms_group_core.specs.Common.{IsTree, IsGroup, parent_of, is_flagged, flags_after, subtree_flags, in_subtree}

-- the last of one more
get_or-last : (flags : List Bool) (b : Bool) → get_or (flags ++ b ∷ []) (length flags) false ≡ b
get_or-last [] b = refl
get_or-last (f ∷ flags) b = get_or-last flags b

get_or-front : (flags more : List Bool) (k : ℕ) → k < length flags
    → get_or (flags ++ more) k false ≡ get_or flags k false
get_or-front [] more k below = absurd (omega arith)
get_or-front (f ∷ flags) more zero below = refl
get_or-front (f ∷ flags) more (suc k) below = get_or-front flags more k (omega arith)

module _ (g : ℕ) where
  -- flags that stand stay
  flags_after-front : (parents : List (Option ℕ)) (flags : List Bool) (k : ℕ) → k < length flags
      → get_or (flags_after g flags parents) k false ≡ get_or flags k false
  flags_after-front [] flags k below = refl
  flags_after-front (parent ∷ parents) flags k below =
      let flag = nat_eq (length flags) g || is_flagged flags parent in
      let more : k < length (flags ++ flag ∷ []) = omega (arith, length-append flags (flag ∷ [])) in
      flags_after-front parents (flags ++ flag ∷ []) k more ∙ get_or-front flags (flag ∷ []) k below

  is_flagged-front : (parents : List (Option ℕ)) (flags : List Bool) (parent : Option ℕ)
      → ((y : ℕ) → parent ≡ Some y → y < length flags)
      → is_flagged (flags_after g flags parents) parent ≡ is_flagged flags parent
  is_flagged-front parents flags None above = refl
  is_flagged-front parents flags (Some y) above = flags_after-front parents flags y (above y refl)

  -- each further flag goes by the group's parent
  flags_after-parent : (parents : List (Option ℕ)) (flags : List Bool) (k : ℕ) → k < length parents
      → ((j y : ℕ) → get_or parents j None ≡ Some y → y < length flags + j)
      → get_or (flags_after g flags parents) (length flags + k) false
      ≡ (nat_eq (length flags + k) g || is_flagged (flags_after g flags parents) (get_or parents k None))
  flags_after-parent [] flags k below above = absurd (omega arith)
  flags_after-parent (parent ∷ parents) flags zero below above =
      let flag = nat_eq (length flags) g || is_flagged flags parent in
      let place : length flags + 0 ≡ length flags = omega arith in
      let more : length flags < length (flags ++ flag ∷ []) = omega (arith, length-append flags (flag ∷ [])) in
      rw place (flags_after-front parents (flags ++ flag ∷ []) (length flags) more ∙ get_or-last flags flag
      ∙ ap (λ b. nat_eq (length flags) g || b)
      (sym (is_flagged-front (parent ∷ parents) flags parent (λ y is. let low = above 0 y is in omega arith))))
  flags_after-parent (parent ∷ parents) flags (suc k) below above =
      let flag = nat_eq (length flags) g || is_flagged flags parent in
      let longer : length (flags ++ flag ∷ []) ≡ suc (length flags) =
      omega (arith, length-append flags (flag ∷ [])) in
      let place : length flags + suc k ≡ length (flags ++ flag ∷ []) + k = omega arith in
      rw place (flags_after-parent parents (flags ++ flag ∷ []) k (omega arith)
      (λ j y is. let low = above (suc j) y is in omega arith))

-- whether the parent of a group is in the subtree of g
abbrev pub parent_in : Tree → ℕ → Option ℕ → Bool
parent_in tree g parent = is_flagged (subtree_flags tree g) parent

module _ (tree : Tree) (is : IsTree tree) (g : ℕ) where
  -- a group is in the subtree of g if it is g, or if its parent is
  pub in_subtree-parent : (x : ℕ) → IsGroup tree x
      → in_subtree tree g x ≡ (nat_eq x g || parent_in tree g (parent_of tree x))
  in_subtree-parent x x_in =
      let none : length {A = Bool} [] ≡ 0 = refl in
      let place : length {A = Bool} [] + x ≡ x = omega arith in
      subst (λ n. get_or (subtree_flags tree g) n false ≡ (nat_eq n g || parent_in tree g (parent_of tree x))) place
      (flags_after-parent g tree.parents [] x x_in
      (λ j y up. let above : y < j = is.parents_above j y up in omega arith))

  pub in_subtree-itself : IsGroup tree g → in_subtree tree g g ≡ true
  in_subtree-itself g_in =
      in_subtree-parent g g_in ∙ ap (λ b. b || parent_in tree g (parent_of tree g)) (eq-eqb g g refl)

  pub in_subtree-child : (x y : ℕ) → IsGroup tree x → x ≢ g → parent_of tree x ≡ Some y
      → in_subtree tree g x ≡ in_subtree tree g y
  in_subtree-child x y x_in other up =
      in_subtree-parent x x_in ∙ ap (λ b. b || parent_in tree g (parent_of tree x)) (ne_eqb x g other)
      ∙ ap (parent_in tree g) up

  pub in_subtree-top : (x : ℕ) → IsGroup tree x → x ≢ g → parent_of tree x ≡ None → in_subtree tree g x ≡ false
  in_subtree-top x x_in other up =
      in_subtree-parent x x_in ∙ ap (λ b. b || parent_in tree g (parent_of tree x)) (ne_eqb x g other)
      ∙ ap (parent_in tree g) up

  -- a group declared above g is not in the subtree of g: n bounds the groups that are gone through
  above-out : (n x : ℕ) → x < n → IsGroup tree x → x < g → in_subtree tree g x ≡ false
  above-out zero x below x_in above = absurd (omega arith)
  above-out (suc n) x below x_in above = by (parent_of tree x) refl (λ y. above-out n y)
    where
      differs : x ≢ g
      differs same = omega arith

      by : (up : Option ℕ) → parent_of tree x ≡ up
          → ((y : ℕ) → y < n → IsGroup tree y → y < g → in_subtree tree g y ≡ false) → in_subtree tree g x ≡ false
      by None up before = in_subtree-top x x_in differs up
      by (Some y) up before =
          let low : y < x = is.parents_above x y up in
          in_subtree-child x y x_in differs up ∙ before y (omega arith) (omega arith) (omega arith)

  pub in_subtree-above : (x : ℕ) → IsGroup tree x → x < g → in_subtree tree g x ≡ false
  in_subtree-above x = above-out (suc x) x (omega arith)
