-- For other crates too: sums over the groups of a subtree.
use Rattle.std.proofs.Common.{◌≡◌, ℕ, zero, suc, ◌<◌, ◌*◌, ◌||◌, Bool, true, false, Option, Some, None, ℤ, pos, neg_ℤ}
use Rattle.std.proofs.Common.{◌+ℤ◌, ◌≤ℤ◌, refl, sym, ap, ◌∙◌, arith, if◌then◌else◌, nat_eq, eq-eqb, eqb-true}
use Rattle.std.proofs.lemmas.Int.{ints}
use Rattle.std.proofs.lemmas.Bool.{ne_eqb}
use Rattle.vms_history.specs.Common.{sum_below}
use Rattle.vms_history.proofs.Common.{sum_below-same, sum_below-sum, sum_below-zeros, sum_below-changed, sum_below-le}
use Rattle.vms_history.proofs.Common.{sum_below-most, sum_below-each, sum_below-not_negative, if-either}
use Rattle.vms_group_core.specs.declared.trees.Tree.{Tree}
use Rattle.vms_group_core.specs.Common.{IsTree, IsGroup, parent_of, is_parent, is_child, group_count, in_subtree}
use Rattle.vms_group_core.specs.Common.{over_subtree}
use Rattle.vms_group_core.proofs.Flags.{parent_in, in_subtree-parent, in_subtree-itself, in_subtree-above}

-- one choice more or less
if-sum : (b : Bool) (v w : ℤ) → (if b then v +ℤ w else pos 0) ≡ (if b then v else pos 0) +ℤ (if b then w else pos 0)
if-sum true v w = refl
if-sum false v w = omega (arith, ints)

if-neg : (b : Bool) (v : ℤ) → (if b then neg_ℤ v else pos 0) ≡ neg_ℤ (if b then v else pos 0)
if-neg true v = refl
if-neg false v = omega (arith, ints)

if-le : (b : Bool) (v w : ℤ) → v ≤ℤ w → (if b then v else pos 0) ≤ℤ (if b then w else pos 0)
if-le true v w less = less
if-le false v w less = omega (arith, ints)

if-least : (b : Bool) (v : ℤ) → pos 0 ≤ℤ v → pos 0 ≤ℤ (if b then v else pos 0)
if-least true v least = least
if-least false v least = omega (arith, ints)

if-most : (b : Bool) (v : ℤ) (most : ℕ) → v ≤ℤ pos most → (if b then v else pos 0) ≤ℤ pos most
if-most true v most within = within
if-most false v most within = omega (arith, ints)

pub sum_below-neg : (f : ℕ → ℤ) (n : ℕ) → sum_below (λ i. neg_ℤ (f i)) n ≡ neg_ℤ (sum_below f n)
sum_below-neg f zero = omega (arith, ints)
sum_below-neg f (suc n) = omega (arith, ints, sum_below-neg f n)

module _ (tree : Tree) (g : ℕ) where
  pub over-same : (f h : ℕ → ℤ) → ((x : ℕ) → IsGroup tree x → f x ≡ h x) → over_subtree tree g f ≡ over_subtree tree g h
  over-same f h same =
      sum_below-same (λ x. if in_subtree tree g x then f x else pos 0)
      (λ x. if in_subtree tree g x then h x else pos 0) (group_count tree)
      (λ x x_in. ap (λ v. if in_subtree tree g x then v else pos 0) (same x x_in))

  pub over-sum : (f h : ℕ → ℤ) → over_subtree tree g (λ x. f x +ℤ h x) ≡ over_subtree tree g f +ℤ over_subtree tree g h
  over-sum f h =
      sum_below-same (λ x. if in_subtree tree g x then f x +ℤ h x else pos 0)
      (λ x. (if in_subtree tree g x then f x else pos 0) +ℤ (if in_subtree tree g x then h x else pos 0))
      (group_count tree) (λ x x_in. if-sum (in_subtree tree g x) (f x) (h x))
      ∙ sum_below-sum (λ x. if in_subtree tree g x then f x else pos 0)
      (λ x. if in_subtree tree g x then h x else pos 0) (group_count tree)

  pub over-neg : (f : ℕ → ℤ) → over_subtree tree g (λ x. neg_ℤ (f x)) ≡ neg_ℤ (over_subtree tree g f)
  over-neg f =
      sum_below-same (λ x. if in_subtree tree g x then neg_ℤ (f x) else pos 0)
      (λ x. neg_ℤ (if in_subtree tree g x then f x else pos 0)) (group_count tree)
      (λ x x_in. if-neg (in_subtree tree g x) (f x))
      ∙ sum_below-neg (λ x. if in_subtree tree g x then f x else pos 0) (group_count tree)

  pub over-zeros : (f : ℕ → ℤ) → ((x : ℕ) → IsGroup tree x → f x ≡ pos 0) → over_subtree tree g f ≡ pos 0
  over-zeros f zeros =
      sum_below-zeros (λ x. if in_subtree tree g x then f x else pos 0) (group_count tree)
      (λ x x_in. ap (λ v. if in_subtree tree g x then v else pos 0) (zeros x x_in)
      ∙ if-either (in_subtree tree g x) (pos 0))

  pub over-le : (f h : ℕ → ℤ) → ((x : ℕ) → IsGroup tree x → f x ≤ℤ h x)
      → over_subtree tree g f ≤ℤ over_subtree tree g h
  over-le f h less =
      sum_below-le (λ x. if in_subtree tree g x then f x else pos 0)
      (λ x. if in_subtree tree g x then h x else pos 0) (group_count tree)
      (λ x x_in. if-le (in_subtree tree g x) (f x) (h x) (less x x_in))

  pub over-least : (f : ℕ → ℤ) → ((x : ℕ) → IsGroup tree x → pos 0 ≤ℤ f x) → pos 0 ≤ℤ over_subtree tree g f
  over-least f least =
      sum_below-not_negative (λ x. if in_subtree tree g x then f x else pos 0) (group_count tree)
      (λ x x_in. if-least (in_subtree tree g x) (f x) (least x x_in))

  pub over-most : (f : ℕ → ℤ) (most : ℕ) → ((x : ℕ) → IsGroup tree x → f x ≤ℤ pos most)
      → over_subtree tree g f ≤ℤ pos (group_count tree * most)
  over-most f most within =
      sum_below-most (λ x. if in_subtree tree g x then f x else pos 0) (group_count tree) most
      (λ x x_in. if-most (in_subtree tree g x) (f x) most (within x x_in))

  -- a group alone counts
  pub over-one : (y : ℕ) (a : ℤ) → IsGroup tree y
      → over_subtree tree g (λ x. if nat_eq y x then a else pos 0) ≡ (if in_subtree tree g y then a else pos 0)
  over-one y a y_in =
      let one = sum_below-changed (λ x. pos 0)
      (λ x. if in_subtree tree g x then (if nat_eq y x then a else pos 0) else pos 0) y (group_count tree) y_in
      (λ x x_in other. ap (λ b. if in_subtree tree g x then (if b then a else pos 0) else pos 0)
      (ne_eqb y x (λ same. other (sym same))) ∙ if-either (in_subtree tree g x) (pos 0)) in
      let none = sum_below-zeros (λ x. pos 0) (group_count tree) (λ x x_in. refl) in
      let here : (if in_subtree tree g y then (if nat_eq y y then a else pos 0) else pos 0)
      ≡ (if in_subtree tree g y then a else pos 0) =
      ap (λ b. if in_subtree tree g y then (if b then a else pos 0) else pos 0) (eq-eqb y y refl) in
      omega (arith, ints, one, none, here)

  pub over-parent : (up : Option ℕ) (a : ℤ) → ((y : ℕ) → up ≡ Some y → IsGroup tree y)
      → over_subtree tree g (λ x. if is_parent up x then a else pos 0) ≡ (if parent_in tree g up then a else pos 0)
  over-parent None a known = over-zeros (λ x. pos 0) (λ x x_in. refl)
  over-parent (Some y) a known = over-one y a (known y refl)

-- each group of a subtree counts at most as much as all of them
pub over-itself : (tree : Tree) (g : ℕ) (f : ℕ → ℤ) → IsTree tree → IsGroup tree g
    → ((x : ℕ) → IsGroup tree x → pos 0 ≤ℤ f x) → f g ≤ℤ over_subtree tree g f
over-itself tree g f is g_in least =
    let each = sum_below-each (λ x. if in_subtree tree g x then f x else pos 0) g (group_count tree) g_in
    (λ x x_in. if-least (in_subtree tree g x) (f x) (least x x_in)) in
    let here : (if in_subtree tree g g then f g else pos 0) ≡ f g =
    ap (λ b. if b then f g else pos 0) (in_subtree-itself tree is g g_in) in
    omega (arith, ints, each, here)

-- g's parent is not in the subtree of g
parent-out : (tree : Tree) (g : ℕ) → IsTree tree → IsGroup tree g → (up : Option ℕ) → parent_of tree g ≡ up
    → parent_in tree g up ≡ false
parent-out tree g is g_in None up = refl
parent-out tree g is g_in (Some y) up =
    let above : y < g = is.parents_above g y up in in_subtree-above tree is g y (omega arith) above

-- an amount that leaves group y for the value of y, and is pending for the parent of y then, counts in no subtree but
-- that of y
pub over-raised : (tree : Tree) (g y : ℕ) (a : ℤ) → IsTree tree → IsGroup tree g → IsGroup tree y
    → over_subtree tree g (λ x. (if is_child tree y x then a else pos 0) +ℤ (if nat_eq y x then neg_ℤ a else pos 0))
    +ℤ (if nat_eq y g then a else pos 0) ≡ pos 0
over-raised tree g y a is g_in y_in =
    let both = over-sum tree g (λ x. if is_child tree y x then a else pos 0)
    (λ x. if nat_eq y x then neg_ℤ a else pos 0) in
    let parent = over-parent tree g (parent_of tree y) a
    (λ z up. let above : z < y = is.parents_above y z up in omega arith) in
    let group = over-one tree g y (neg_ℤ a) y_in in
    let sums : (if parent_in tree g (parent_of tree y) then a else pos 0)
    +ℤ (if in_subtree tree g y then neg_ℤ a else pos 0) +ℤ (if nat_eq y g then a else pos 0) ≡ pos 0 =
    by (nat_eq y g) refl in
    omega (arith, ints, both, parent, group, sums)
  where
    other : (b : Bool) → (if b then a else pos 0) +ℤ (if b then neg_ℤ a else pos 0) +ℤ pos 0 ≡ pos 0
    other true = omega (arith, ints)
    other false = omega (arith, ints)

    by : (b : Bool) → nat_eq y g ≡ b → (if parent_in tree g (parent_of tree y) then a else pos 0)
        +ℤ (if in_subtree tree g y then neg_ℤ a else pos 0) +ℤ (if b then a else pos 0) ≡ pos 0
    by true same =
        let here : y ≡ g = eqb-true y g same in
        let inside : in_subtree tree g y ≡ true =
        ap (in_subtree tree g) here ∙ in_subtree-itself tree is g g_in in
        let outside : parent_in tree g (parent_of tree y) ≡ false =
        ap (λ x. parent_in tree g (parent_of tree x)) here ∙ parent-out tree g is g_in (parent_of tree g) refl in
        rw (inside, outside) (omega (arith, ints))
    by false differ =
        let same : in_subtree tree g y ≡ parent_in tree g (parent_of tree y) =
        in_subtree-parent tree is g y y_in ∙ ap (λ b. b || parent_in tree g (parent_of tree y)) differ in
        rw same (other (parent_in tree g (parent_of tree y)))
