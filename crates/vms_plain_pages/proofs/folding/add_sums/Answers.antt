-- An item more, and all items at the end.
use Rattle.std.proofs.Common.{◌≡◌, ℕ, ◌+◌, ◌<◌, pos, length, get_or, FitsSigned, w64, to_z, of_z, sym, subst, arith}
use Rattle.std.proofs.lemmas.Int.{ints, to_z-of_z}
use Rattle.vms_calls.specs.Common.{IsItem, item_count}
use Rattle.vms_plain_pages.proofs.AddedSums.{AddsBelow, AddsBelow-kept, AddsBelow-more, AddsSums-all}
use Rattle.vms_plain_pages.proofs.folding.add_sums.Goals as goal
use Rattle.vms_plain_pages.proofs.folding.add_sums.Goals.{then-sum-ne0, else-sum-ne0}

pub loop-number-preserved : goal.loop-number-preserved
loop-number-preserved c =
    let shape = c.args.layout.now in
    let n = c.loop-number.number in
    let s = c.args.pages.now in
    let sums = c.args.sums.now in
    let z = get_or sums n (pos 0) in
    let few = c.requires.sums.each n in
    let fits : FitsSigned w64 z = omega (arith, ints) in
    let same : to_z w64 (of_z w64 z) ≡ z = to_z-of_z w64 z fits in
    let n_in : IsItem shape n = omega (arith, c.loop-number-test.true, c.items-number-end.ensures.value) in
    let within : n < length c.loop-number.pages.system =
    omega (arith, n_in, c.loop-number.invariant.same_length, c.requires.length) in
    elim c.if-sum-ne0.branch [
      | then-sum-ne0 w ↦
          subst (AddsBelow shape sums s (n + 1)) (sym w.pages-is)
          (rw (w.add_system.ensures, same)
          (AddsBelow-more shape sums s n n_in c.loop-number.pages within c.loop-number.invariant))
      | else-sum-ne0 w ↦
          subst (AddsBelow shape sums s (n + 1)) (sym w.pages-is)
          (AddsBelow-kept shape sums s n n_in c.loop-number.pages within c.loop-number.invariant
          (omega (arith, ints, w.if-sum-ne0.false)))
    ]

pub returns : goal.returns
returns c =
    let all : c.loop-number.number ≡ item_count c.args.layout.now = omega (
      arith,
      c.loop-number-test.false,
      c.loop-number.auto.«number-end»,
      c.items-number-end.ensures.value,
    ) in
    AddsSums-all c.args.layout.now c.args.sums.now c.args.pages.now c.loop-number.pages
    (subst (λ (n : ℕ). AddsBelow c.args.layout.now c.args.sums.now c.args.pages.now n c.loop-number.pages) all
    c.loop-number.invariant)
