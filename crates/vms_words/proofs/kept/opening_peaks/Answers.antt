-- The goal was that one more entry is the peak of its CPU and zone.
use Rattle.std.proofs.Common.{◌/◌, ◌%◌, ap, ◌∙◌, arith, length, length-set}
use Rattle.vms_calls.specs.Common.{opening_peak}
use Rattle.vms_words.proofs.Filled.{filled-more}
use Rattle.vms_words.proofs.kept.opening_peaks.Goals as goal

pub loop-at-preserved : goal.loop-at-preserved
loop-at-preserved c =
    let shape = c.args.layout.now in
    let s = c.args.state.now in
    let zones = length c.zones-zones.result.now in
    let end = c.loop-at.auto.«at-end» in
    record {
      same_length = ap length c.set.ensures ∙ length-set c.loop-at.peaks c.loop-at.at c.opening_peak.result
          ∙ c.loop-at.invariant.same_length;
      done = filled-more (λ n. opening_peak shape s (n / zones) (n % zones)) c.loop-at.at c.loop-at.peaks
          c.set.new.self c.opening_peak.result 0
          (omega (arith, c.loop-at.invariant.same_length, c.loop-at-test.true, end))
          c.set.ensures
          (c.opening_peak.ensures.value
          ∙ ap (λ n. opening_peak shape s n c.row_and_column-zone.result.1) c.row_and_column-zone.ensures.cpu
          ∙ ap (opening_peak shape s (c.loop-at.at / zones)) c.row_and_column-zone.ensures.thing)
          c.loop-at.invariant.done;
    }
