-- An addition of 0 changes nothing, and the sum of any other stays small.
use Rattle.std.proofs.Common.{◌≡◌, ℕ, ℤ, ◌+ℤ◌, FitsSigned, to_z, of_z, w64, slice_set, sym, ap, ◌∙◌, arith}
use Rattle.std.proofs.lemmas.Int.{ints, to_z-of_z}
use Rattle.vms_calls.specs.Common.{item_of}
use Rattle.vms_plain_pages.specs.Common.{sum_at}
use Rattle.vms_plain_pages.proofs.TakenGroups.{set-nothing, with_value-nothing}
use Rattle.vms_call_lines.proofs.folds.write_entry.Goals as goal

pub returns-then-amount-eq0-clause-value : goal.returns-then-amount-eq0-clause-value
returns-then-amount-eq0-clause-value c =
    sym (with_value-nothing c.args.pages.now c.args.counter.number c.args.amount (omega (arith, ints)))

pub returns-then-amount-eq0-clause-sum : goal.returns-then-amount-eq0-clause-sum
returns-then-amount-eq0-clause-sum c =
    sym (set-nothing c.args.sums.now (item_of c.args.layout.now c.args.counter.number) c.args.amount
    (omega (arith, ints)))

pub returns-clause-sum : goal.returns-clause-sum
returns-clause-sum c =
    let sums = c.args.sums.now in
    let i = c.item_of.result.number in
    let a = c.args.amount in
    let x = sum_at sums i in
    let few = c.requires.sums.each i in
    let small = c.requires.amount in
    let kept_sum : to_z w64 (of_z w64 x) ≡ x = to_z-of_z w64 x (omega (arith, ints, few)) in
    let kept : to_z w64 (of_z w64 a) ≡ a = to_z-of_z w64 a c.ranges.amount in
    let both = to_z w64 (of_z w64 x) +ℤ to_z w64 (of_z w64 a) in
    let fits : FitsSigned w64 both = omega (arith, ints, kept_sum, kept, few, small) in
    let value : to_z w64 (of_z w64 both) ≡ x +ℤ a =
    to_z-of_z w64 both fits ∙ ap (λ (z : ℤ). z +ℤ to_z w64 (of_z w64 a)) kept_sum ∙ ap (λ (z : ℤ). x +ℤ z) kept in
    ap (slice_set sums i) value ∙ ap (λ (n : ℕ). slice_set sums n (sum_at sums n +ℤ a)) c.item_of.ensures.value
