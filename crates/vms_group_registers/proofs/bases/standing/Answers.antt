-- The sum grows by what is pending for the next group.
use Rattle.std.proofs.Common.{◌≡◌, ℕ, suc, ◌+◌, ℤ, pos, ◌+ℤ◌, ap, sym, ◌∙◌, arith, if◌then◌else◌}
use Rattle.std.proofs.lemmas.Int.{ints}
use Rattle.vms_history.specs.Common.{sum_below}
use Rattle.vms_group_core.specs.Common.{in_subtree, pending_of, size_of, value_at}
use Rattle.vms_group_registers.proofs.bases.standing.Goals as goal

one-more : (f : ℕ → ℤ) (n : ℕ) (v : ℤ) (sum part : ℕ) → pos sum ≡ v +ℤ sum_below f n → pos part ≡ f n
    → pos (sum + part) ≡ v +ℤ sum_below f (n + 1)
one-more f n v sum part is one =
    let next : n + 1 ≡ suc n = omega arith in
    let grown : pos (sum + part) ≡ v +ℤ sum_below f (suc n) = omega (arith, ints, is, one) in
    grown ∙ ap (λ m. v +ℤ sum_below f m) (sym next)

pub loop-below-preserved : goal.loop-below-preserved
loop-below-preserved c =
    let facts = c.args.facts.now in
    let most = c.loop-below.invariant.most in
    record {
      value = one-more
          (λ x. if in_subtree facts.tree c.args.group x then pending_of size_of facts.tree facts.base x else pos 0)
          c.loop-below.below (size_of (value_at facts.base c.args.group)) c.loop-below.sum c.standing_in-sum.result
          c.loop-below.invariant.value c.standing_in-sum.ensures.value;
      most = omega (arith, c.standing_in-sum.ensures.most);
    }
