-- A state more.
use Rattle.std.proofs.Common.{◌≡◌, ◌<◌, length, subst, arith}
use Rattle.std.specs.Prelude.{◌↔◌}
use Rattle.std.proofs.lemmas.List.{get_or_default}
use Rattle.vms_calls.specs.Common.{CpuState, Online, Absent}
use Rattle.vms_plain_pages.proofs.OnlineMarks.{marks-more}
use Rattle.vms_plain_pages.proofs.values.are_online.Goals as goal

pub loop-state-preserved : goal.loop-state-preserved
loop-state-preserved c =
    let states = c.args.states.now in
    let n = c.loop-state.state-index in
    let below : n < length states = omega (arith, c.loop-state-test.true, c.loop-state.auto.state-index-end) in
    let here = subst (λ (x : CpuState). (c.mark_of-marks.result ≡ 0) ↔ (x ≡ Online))
    (get_or_default states n Online Absent below) c.mark_of-marks.ensures in
    marks-more states n c.loop-state.marks c.mark_of-marks.result c.loop-state.invariant here
