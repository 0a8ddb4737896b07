-- The lines of a phase, by the laws of each call.
use Rattle.vms_truth.proofs.EventLines.{event_lines-shown, event_lines-true}
use Rattle.vms_truth.proofs.PageLines.{page_lines-shown, page_lines-true}
use Rattle.vms_truth.proofs.PcpuLines.{pcpu_lines-shown, pcpu_lines-true}
use Rattle.vms_truth.proofs.phases.phases_answer_truly.Goals as goal

pub returns : goal.returns
returns g c header w items hs makes known up =
    let pressure = g.R.ThresholdRules.pressure in
    let normal = g.R.ThresholdRules.normal in
    let on_pages = page_lines-shown pressure normal c.calls_answer_truly.ensures.pages header w items hs makes known up
    in
    let on_counters = pcpu_lines-shown c.calls_answer_truly.ensures.counters header pressure normal w items hs makes
    known up in
    let on_events = event_lines-shown c.answers_are_read.ensures.call c.calls_answer_truly.ensures.events header pressure
    normal w items hs makes known up in
    record {
      page_moments = on_pages.moments;
      pages = page_lines-true header pressure normal w items hs on_pages.moments on_pages.lines;
      pages_follow = on_pages.follow;
      counter_moments = on_counters.moments;
      counters = pcpu_lines-true header w items hs on_counters.moments on_counters.lines;
      counters_follow = on_counters.follow;
      event_moments = on_events.moments;
      events = event_lines-true header w items hs on_events.moments on_events.lines;
      events_follow = on_events.follow;
      carried = c.phases_carry_little.ensures header w items hs makes;
      in_flight = c.phases_fly_little.ensures header w items hs makes;
    }
