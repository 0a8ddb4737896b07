-- A CPU goes absent only by a burial, call by call.
use Rattle.vms_file_order.proofs.AbsentCpus.{AbsentAreBuried-made}
use Rattle.vms_file_order.proofs.burials.phases_bury_who_goes_absent.Goals as goal

pub returns : goal.returns
returns g c =
    let pressure = g.R.ThresholdRules.pressure in
    let normal = g.R.ThresholdRules.normal in
    record {
      buried = AbsentAreBuried-made pressure normal;
      nothing = λ header w items hs phase. c.burials_leave_nothing.ensures header w items hs phase
          (AbsentAreBuried-made pressure normal header w items hs phase);
    }
