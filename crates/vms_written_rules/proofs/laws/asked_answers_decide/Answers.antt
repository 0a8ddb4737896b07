-- Phase by phase, and boundary by boundary.
use Rattle.vms_written_rules.proofs.OtherPhases.{IsWrittenHistory-allowed, IsWrittenPhase-allowed}
use Rattle.vms_written_rules.proofs.laws.asked_answers_decide.Goals as goal

pub returns : goal.returns
returns g c =
    let pressure = g.R.ThresholdRules.pressure in
    let normal = g.R.ThresholdRules.normal in
    let pressure' = g.S.ThresholdRules.pressure in
    let normal' = g.S.ThresholdRules.normal in
    record {
      phases = λ header s items h by_pressure by_normal is.
          IsWrittenPhase-allowed header pressure normal pressure' normal' by_pressure by_normal s items h is;
      histories = λ header segments hs valid by_pressure by_normal is.
          IsWrittenHistory-allowed header pressure normal pressure' normal' by_pressure by_normal valid segments hs is;
    }
