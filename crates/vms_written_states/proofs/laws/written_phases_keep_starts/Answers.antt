-- The first start, each phase and each boundary line.
use Rattle.vms_file_order.proofs.Common.{MayCross-allowed}
use Rattle.vms_written_states.specs.PageStarts.{world_with}
use Rattle.vms_written_states.proofs.Crossings.{IsPageStart-crossed}
use Rattle.vms_written_states.proofs.PhaseEnds.{IsPageStart-first, IsPageStart-left}
use Rattle.vms_written_states.proofs.laws.written_phases_keep_starts.Goals as goal

pub returns : goal.returns
returns g c =
    let pressure = g.R.ThresholdRules.pressure in
    let normal = g.R.ThresholdRules.normal in
    record {
      first = λ header zones valid gives are. IsPageStart-first header valid normal gives zones are;
      phase = λ header start s items h is fits phase.
          IsPageStart-left header pressure normal start s items h is.volumes is.is fits phase;
      may = λ header start s b is known allowed.
          MayCross-allowed header start (world_with header is.volumes s) is.is.states b known allowed;
      boundary = λ header start s next b gives is known allowed crosses.
          IsPageStart-crossed header normal gives start s next b is known allowed crosses;
    }
