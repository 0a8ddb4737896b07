-- A CPU more, and all of them.
use Rattle.std.proofs.Common.{◌≡◌, ◌≤◌, ◌+◌, ◌∙◌, ap, subst, sym, length, arith}
use Rattle.vms_cursors.specs.OnlineCpus.{flagged, is_flagged, one_more}
use Rattle.vms_cursors.proofs.FlaggedCpus.{count-next, one_more-most}
use Rattle.vms_cursors.proofs.online_cpus.OnlineCpus.count.Goals as goal

pub loop-c-preserved : goal.loop-c-preserved
loop-c-preserved c =
    let b = is_flagged c.args.self.now.flags c.loop-c.c in record {
      value = c.counted-count.ensures ∙ ap (one_more b) c.loop-c.invariant.value
          ∙ sym (count-next c.args.self.now.flags c.loop-c.c);
      most = subst (λ n. n ≤ c.loop-c.c + 1) (sym c.counted-count.ensures)
          (one_more-most b c.loop-c.count c.loop-c.c c.loop-c.invariant.most);
    }

pub returns : goal.returns
returns c = c.loop-c.invariant.value ∙ ap (λ n. length (flagged c.args.self.now.flags 0 n))
    (let all : c.loop-c.c ≡ c.args.cpus = omega (arith, c.loop-c-test.false, c.loop-c.auto.«c-end») in all)
