-- Phase by phase, and across each boundary line.
use Rattle.vms_written.proofs.WrittenLanes.{IsWrittenPhase-of_lanes}
use Rattle.vms_written.proofs.WrittenWays.{LeadsThrough-led}
use Rattle.vms_written.proofs.laws.runs_are_written.Goals as goal

pub returns : goal.returns
returns g c =
    let pressure = g.R.ThresholdRules.pressure in
    let normal = g.R.ThresholdRules.normal in
    record {
      phases = λ header w items hs makes. IsWrittenPhase-of_lanes header pressure normal w.pages items hs.pages
          makes.complete.pages makes.page_lanes makes.page_lines;
      runs = λ header segments hss last run. record {
        zones = run.zones;
        answers = run.answers;
        last = last.pages;
        leads = LeadsThrough-led header pressure normal segments hss _ last run.leads;
      };
    }
