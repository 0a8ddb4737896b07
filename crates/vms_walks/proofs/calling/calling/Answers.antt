-- An act that makes no call is one more of these.
use Rattle.std.proofs.Common.{◌≡◌, ℕ, ◌≤◌, below_more, sym}
use Rattle.std.specs.Prelude.{None}
use Rattle.vms_world.specs.Common.{page_call}
use Rattle.vms_walks.specs.Calling.{act_at}
use Rattle.vms_walks.proofs.calling.calling.Goals as goal

pub loop-at-preserved : goal.loop-at-preserved
loop-at-preserved c = λ n least below.
    below_more (λ (k : ℕ). c.args.from ≤ k → page_call c.args.lane (act_at c.args.acts.now k) ≡ None) c.loop-at.at
    (λ k less from. c.loop-at.invariant k from less) (λ from. sym c.in-None.ensures) n below least
