-- One differential more is 0, or it is the first that is not.
use Rattle.std.proofs.Common.{refl, arith, below_more}
use Rattle.std.proofs.lemmas.Int.{ints}
use Rattle.vms_page_registers.proofs.AllZero.{some-left}
use Rattle.vms_page_registers.proofs.openings.hides_nothing.Goals as goal

pub returns-then-diff_at-ne0 : goal.returns-then-diff_at-ne0
returns-then-diff_at-ne0 c =
    some-left _ _ c.loop-number.number (omega arith) (λ none. omega (arith, ints, none, c.diff_at.ensures))

pub loop-number-preserved : goal.loop-number-preserved
loop-number-preserved c = below_more _ _ c.loop-number.invariant (omega (arith, ints, c.diff_at.ensures))

pub returns : goal.returns
returns c = (λ yes k within. c.loop-number.invariant k (omega arith), λ nothing. refl)
