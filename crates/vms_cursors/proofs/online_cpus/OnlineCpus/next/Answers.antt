-- A CPU that isn't online is passed.
use Rattle.std.proofs.Common.{◌∙◌, sym, arith}
use Rattle.vms_cursors.proofs.FlaggedCpus.{flagged-none, flagged-skipped}
use Rattle.vms_cursors.proofs.online_cpus.OnlineCpus.next.Goals as goal

pub loop-c-preserved : goal.loop-c-preserved
loop-c-preserved c = c.loop-c.invariant
    ∙ flagged-skipped c.args.self.now.flags c.args.cpus c.loop-c.c c.loop-c-test.true c.if-self-c.false

pub returns-clause-same : goal.returns-clause-same
returns-clause-same c = c.loop-c.invariant
    ∙ flagged-none c.args.self.now.flags c.args.cpus c.loop-c.c c.loop-c-test.false
    ∙ sym (flagged-none c.args.self.now.flags c.args.cpus c.args.cpus (omega arith))
