-- The threshold of the next CPU is set, if it is online.
use Rattle.std.proofs.Common.{◌≡◌, ℕ, ◌<◌, ◌++◌, length, sym, ap, ◌∙◌, arith}
use Rattle.vms_calls.specs.Common.{CpuId, SetT, Step, is_online, state_at, threshold_at}
use Rattle.vms_core.proofs.Common.{places_of-shaped}
use Rattle.vms_text.proofs.Common.{OnErr-true}
use Rattle.vms_written_lines.specs.Spelling.{event_line}
use Rattle.vms_written_lines.specs.WideSteps.{widened}
use Rattle.vms_rating_lines.specs.Lines.{step_lines}
use Rattle.vms_rating_lines.proofs.Begun.{Begins-kept, Begins-more, Begins-self, Begins-then}
use Rattle.vms_rating_lines.proofs.LinesLeft.{online-next, online-turns, other-next}
use Rattle.vms_rating_lines.proofs.visits.write_thresholds.Goals as goal
use Rattle.vms_rating_lines.proofs.visits.write_thresholds.Goals.{then-is_online+in_ok-push_event_line, else-is_online}

pub load_threshold-threshold-requires-clause-place : goal.load_threshold-threshold-requires-clause-place
load_threshold-threshold-requires-clause-place c =
    rw (places_of-shaped c.args.layout.now c.args.pages.now c.cpus-number-end.ensures.is_layout c.requires.shaped)
    c.requires.place

pub loop-number-init : goal.loop-number-init
loop-number-init c = record {
  begun = Begins-self c.args.out.now.items;
  left = ap (λ ks. c.args.out.now.items ++ step_lines c.args.caller ks)
      (online-turns (λ d. SetT d c.args.place (threshold_at c.args.pages.now d.number c.args.place.number))
      0 c.args.pages.now.cpu);
}

pub loop-number-preserved : goal.loop-number-preserved
loop-number-preserved c =
    let p = c.args.caller in
    let s = c.args.pages.now in
    let g = c.args.place in
    let n = c.loop-number.number in
    let out = c.loop-number.out.items in
    let told : CpuId → Step = λ d. SetT d g (threshold_at s d.number g.number) in
    let within : n < length s.cpu =
    omega (arith, c.loop-number-test.true, c.cpus-number-end.ensures.value, c.requires.shaped.cpu) in
    let online : is_online (state_at s.cpu n) ≡ c.is_online.result =
    ap is_online (sym c.load_state.ensures) ∙ sym c.is_online.ensures in
    record {
      begun = elim c.if-is_online.branch [
        | then-is_online+in_ok-push_event_line w ↦
            Begins-more _ _ _ _ c.loop-number.invariant.begun
            (ap (λ (v : _). v.items) w.out-is ∙ w.in_ok-push_event_line.ensures.ok)
        | else-is_online w ↦
            Begins-kept _ _ _ c.loop-number.invariant.begun (ap (λ (v : _). v.items) w.out-is)
      ];
      left = elim c.if-is_online.branch [
        | then-is_online+in_ok-push_event_line w ↦
            let cpu : CpuId = record { number = n } in
            online-next p s.cpu n within _ out c.if-is_online.out.items told c.loop-number.invariant.left
            (online ∙ w.if-is_online.true)
            (ap (λ (v : _). v.items) w.out-is ∙ w.in_ok-push_event_line.ensures.ok
            ∙ ap (λ (t : ℕ). out ++ event_line p (widened (SetT cpu g t))) w.load_threshold-threshold.ensures.t)
        | else-is_online w ↦
            other-next p s.cpu n within _ out c.if-is_online.out.items told c.loop-number.invariant.left
            (online ∙ w.if-is_online.false)
            (ap (λ (v : _). v.items) w.out-is)
      ];
    }

pub returns-in_err-push_event_line-clause-err : goal.returns-in_err-push_event_line-clause-err
returns-in_err-push_event_line-clause-err c =
    OnErr-true c.from_residual.result _
    (Begins-then _ _ _ c.loop-number.invariant.begun c.in_err-push_event_line.ensures.err)
