-- An item more, and all items at the end.
use Rattle.std.proofs.Common.{◌≡◌, ℕ, ◌<◌, ◌≤◌, ◌^◌, ◌++◌, ℤ, pos, length, get_or, FitsSigned, w64, to_z, of_z}
use Rattle.std.proofs.Common.{unsigned_abs, ap, sym, subst, ◌∙◌, arith}
use Rattle.std.proofs.lemmas.Int.{ints, to_z-of_z}
use Rattle.vms_calls.specs.Common.{IsItem, item_count, to_system}
use Rattle.vms_text.proofs.Common.{OnErr-true}
use Rattle.vms_plain_pages.proofs.AddedSums.{AddsBelow, AddsBelow-more, AddsBelow-none, AddsSums-all}
use Rattle.vms_rating_lines.specs.Lines.{step_lines}
use Rattle.vms_rating_lines.proofs.Common.{Begins-more, Begins-self, Begins-then}
use Rattle.vms_call_lines.proofs.FoldLines.{SumsLeft, sums-all, sums-next, sums-none}
use Rattle.vms_call_lines.proofs.folds.write_sums.Goals as goal

pub loop-number-init : goal.loop-number-init
loop-number-init c = (
  AddsBelow-none c.args.layout.now c.args.sums.now c.args.pages.now,
  sums-none c.args.layout.now c.args.sums.now c.args.caller c.args.out.now.items,
  Begins-self c.args.out.now.items,
)

pub write_sum-requires-clause-item : goal.write_sum-requires-clause-item
write_sum-requires-clause-item c =
    omega (
      arith,
      c.loop-number-test.true,
      c.items-number-end.ensures.value,
      c.loop-number.invariant.0.same_length,
      c.requires.length,
    )

pub write_sum-requires-clause-system : goal.write_sum-requires-clause-system
write_sum-requires-clause-system c =
    let n = c.loop-number.number in
    let n_in : IsItem c.args.layout.now n = omega (arith, c.loop-number-test.true, c.items-number-end.ensures.value) in
    subst (λ (z : ℤ). unsigned_abs z ≤ 2 ^ 61) (sym (c.loop-number.invariant.0.others n (omega arith)))
    (c.requires.systems n n_in)

pub loop-number-preserved : goal.loop-number-preserved
loop-number-preserved c =
    let shape = c.args.layout.now in
    let n = c.loop-number.number in
    let s = c.args.pages.now in
    let sums = c.args.sums.now in
    let z = get_or sums n (pos 0) in
    let few = c.requires.sums.each n in
    let fits : FitsSigned w64 z = omega (arith, ints) in
    let same : to_z w64 (of_z w64 z) ≡ z = to_z-of_z w64 z fits in
    let n_in : IsItem shape n = omega (arith, c.loop-number-test.true, c.items-number-end.ensures.value) in
    let within : n < length c.loop-number.pages.system =
    omega (arith, n_in, c.loop-number.invariant.0.same_length, c.requires.length) in
    let sum = c.in_ok-write_sum.ensures in (
      rw (sum.system, same)
          (AddsBelow-more shape sums s n n_in c.loop-number.pages within c.loop-number.invariant.0),
      sums-next shape sums c.args.caller c.args.out.now.items n c.loop-number.out.items c.write_sum.new.out.items n_in
          c.loop-number.invariant.1
          (sum.lines ∙ ap (λ (x : ℤ). c.loop-number.out.items ++ step_lines c.args.caller (to_system n x)) same),
      Begins-more _ _ _ _ c.loop-number.invariant.2 sum.lines,
    )

pub returns-clause-ok : goal.returns-clause-ok
returns-clause-ok c =
    let shape = c.args.layout.now in
    let sums = c.args.sums.now in
    let all : c.loop-number.number ≡ item_count shape = omega (
      arith,
      c.loop-number-test.false,
      c.loop-number.auto.«number-end»,
      c.items-number-end.ensures.value,
    ) in
    sums-all shape sums c.args.caller c.args.out.now.items c.args.pages.now c.loop-number.pages c.loop-number.out.items
    (AddsSums-all shape sums c.args.pages.now c.loop-number.pages
    (subst (λ (n : ℕ). AddsBelow shape sums c.args.pages.now n c.loop-number.pages) all c.loop-number.invariant.0))
    (subst (λ (n : ℕ). SumsLeft shape sums c.args.caller c.args.out.now.items n c.loop-number.out.items) all
    c.loop-number.invariant.1)

pub returns-in_err-write_sum-clause-err : goal.returns-in_err-write_sum-clause-err
returns-in_err-write_sum-clause-err c =
    OnErr-true c.from_residual.result _
    (Begins-then _ _ _ c.loop-number.invariant.2 c.in_err-write_sum.ensures.err)
