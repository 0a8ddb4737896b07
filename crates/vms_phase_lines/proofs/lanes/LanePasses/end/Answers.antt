-- One pass more has ended, and in the end all.
use Rattle.std.proofs.Common.{append-nil, arith, sym}
use Rattle.vms_text.proofs.Common.{OnErr-true}
use Rattle.vms_rating_lines.proofs.Common.{Begins-more, Begins-self, Begins-then}
use Rattle.vms_phase_lines.proofs.Closings.{lines-all_ended, lines-ended}
use Rattle.vms_phase_lines.proofs.lanes.LanePasses.end.Goals as goal

pub loop-ended-init : goal.loop-ended-init
loop-ended-init c = record {
  begun = Begins-self c.args.out.now.items;
  lines = λ lanes count. sym (append-nil c.args.out.now.items);
}

pub loop-ended-preserved : goal.loop-ended-preserved
loop-ended-preserved c = record {
  begun = Begins-more _ _ _ _ c.loop-ended.invariant.begun c.in_ok-push_event_line.ensures.ok;
  lines = λ lanes count. lines-ended lanes c.loop-ended.ended c.args.out.now.items c.loop-ended.out.items
      (c.loop-ended.invariant.lines lanes count) (omega (arith, count)) c.push_event_line.new.out.items
      c.in_ok-push_event_line.ensures.ok;
}

pub returns-clause-ok : goal.returns-clause-ok
returns-clause-ok c = λ lanes count.
    lines-all_ended lanes c.loop-ended.ended c.args.out.now.items c.loop-ended.out.items
    (c.loop-ended.invariant.lines lanes count) (omega (arith, count))

pub returns-in_err-push_event_line-clause-err : goal.returns-in_err-push_event_line-clause-err
returns-in_err-push_event_line-clause-err c =
    OnErr-true c.from_residual.result _
    (Begins-then _ _ _ c.loop-ended.invariant.begun c.in_err-push_event_line.ensures.err)
