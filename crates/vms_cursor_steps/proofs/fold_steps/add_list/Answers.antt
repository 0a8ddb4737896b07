-- A list in which each entry is 0 adds nothing.
use Rattle.std.proofs.Common.{◌≡◌, ◌∙◌, ◌+◌, Bool, true, false, ℤ, pos, nat_eq, if◌then◌else◌, refl, ap, arith}
use Rattle.std.proofs.lemmas.Int.{ints}
use Rattle.std.proofs.lemmas.Slice.Eq.{slice_eq-Decides}
use Rattle.std.specs.Cmp.{signed_Decides}
use Rattle.std.specs.Prelude.{replicate, slice_index_or}
use Rattle.vms_calls.specs.Common.{entries_of, first_of_group, item_of}
use Rattle.vms_core.proofs.Common.{get_or-copies}
use Rattle.vms_history.proofs.Common.{sum_below-zeros}
use Rattle.vms_cursor_steps.proofs.fold_steps.add_list.Goals as goal

if-zero : (b : Bool) (z : ℤ) → z ≡ pos 0 → (if b then z else pos 0) ≡ pos 0
if-zero true z none = none
if-zero false z none = refl

pub returns-then-eq-clause-totals : goal.returns-then-eq-clause-totals
returns-then-eq-clause-totals c = λ i.
    let shape = c.args.layout.now in
    let j = c.args.taken.now.groups in
    let list = c.args.list.now in
    let told = slice_eq-Decides signed_Decides _ _ _ c.eq.ensures in
    let zeros : list.values ≡ replicate 8 (pos 0) = told.0 c.if-eq.true in
    let none : entries_of shape i j list ≡ pos 0 = sum_below-zeros
    (λ n. if nat_eq (item_of shape (first_of_group j + n)) i then slice_index_or list.values n (pos 0) else pos 0) 8
    (λ n less. if-zero (nat_eq (item_of shape (first_of_group j + n)) i) (slice_index_or list.values n (pos 0))
    (ap (λ xs. slice_index_or xs n (pos 0)) zeros ∙ get_or-copies 8 n (pos 0))) in
    omega (arith, ints, none)
