-- A run, segment by segment.
use Rattle.vms_file_order.proofs.SegmentStarts.{IsStartOf-body, IsStartOf-run}
use Rattle.vms_file_order.proofs.world_starts.runs_keep_starts.Goals as goal

pub returns : goal.returns
returns g c =
    let pressure = g.R.ThresholdRules.pressure in
    let normal = g.R.ThresholdRules.normal in
    record {
      segments = λ header segments hss last valid gives are run. IsStartOf-run header pressure normal gives valid
          segments hss last are run;
      body = λ header n texts hss last valid gives run. IsStartOf-body header pressure normal gives valid n texts
          hss last run;
    }
