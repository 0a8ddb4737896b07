-- The goal was that one more entry is cleared.
use Rattle.std.proofs.Common.{ap, ◌∙◌, arith, length, length-set}
use Rattle.vms_words.proofs.Filled.{filled-more}
use Rattle.vms_words.proofs.endings.clear.Goals as goal

pub loop-n-preserved : goal.loop-n-preserved
loop-n-preserved g c = record {
  same_length = ap length c.set.ensures ∙ length-set c.loop-n.row c.loop-n.n c.args.value
      ∙ c.loop-n.invariant.same_length;
  done = λ m less default.
      filled-more (λ i. c.args.value) c.loop-n.n c.loop-n.row c.set.new.self c.args.value default
      (omega (arith, c.loop-n.invariant.same_length)) c.set.ensures (λ i. c.args.value)
      (λ i under. c.loop-n.invariant.done i under default) m less;
}
