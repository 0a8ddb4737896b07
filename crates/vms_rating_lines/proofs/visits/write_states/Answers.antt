-- The state of the next CPU is loaded.
use Rattle.std.proofs.Common.{◌<◌, ◌++◌, refl, length, ap, ◌∙◌, arith}
use Rattle.vms_calls.specs.Common.{CpuId, CpuState, LoadO, state_at, state_steps}
use Rattle.vms_text.proofs.Common.{OnErr-true}
use Rattle.vms_written_lines.specs.Spelling.{event_line}
use Rattle.vms_written_lines.specs.WideSteps.{widened}
use Rattle.vms_rating_lines.proofs.Begun.{Begins-more, Begins-self, Begins-then}
use Rattle.vms_rating_lines.proofs.LinesLeft.{lines-one, turns-next}
use Rattle.vms_rating_lines.proofs.visits.write_states.Goals as goal

pub loop-number-init : goal.loop-number-init
loop-number-init c = record {
  begun = Begins-self c.args.out.now.items;
  left = refl;
}

pub loop-number-preserved : goal.loop-number-preserved
loop-number-preserved c =
    let p = c.args.caller in
    let xs = c.args.pages.now.cpu in
    let n = c.loop-number.number in
    let cpu : CpuId = record { number = n } in
    let out = c.loop-number.out.items in
    let last = c.push_event_line.new.out.items in
    let within : n < length xs =
    omega (arith, c.loop-number-test.true, c.cpus-number-end.ensures.value, c.requires.shaped.cpu) in
    record {
      begun = Begins-more _ _ _ _ c.loop-number.invariant.begun c.in_ok-push_event_line.ensures.ok;
      left = turns-next p xs n within _ out last state_steps
          (lines-one p (LoadO cpu (state_at xs n)) out last (c.in_ok-push_event_line.ensures.ok
          ∙ ap (λ (x : CpuState). out ++ event_line p (widened (LoadO cpu x))) c.load_state.ensures))
          c.loop-number.invariant.left;
    }

pub returns-in_err-push_event_line-clause-err : goal.returns-in_err-push_event_line-clause-err
returns-in_err-push_event_line-clause-err c =
    OnErr-true c.from_residual.result _
    (Begins-then _ _ _ c.loop-number.invariant.begun c.in_err-push_event_line.ensures.err)
