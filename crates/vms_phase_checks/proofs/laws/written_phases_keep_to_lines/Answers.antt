-- What a pass has made hangs on its own events, as walks say.
use Rattle.vms_phase_checks.proofs.KeptPhases.{BeginsWrittenPhase-kept, KeepsToLines-first}
use Rattle.vms_phase_checks.proofs.laws.written_phases_keep_to_lines.Goals as goal

pub returns : goal.returns
returns g c =
    let pressure = g.W.LaneWalk.pressure in
    let normal = g.W.LaneWalk.normal in
    record {
      first = λ header s items more h is.
          KeepsToLines-first pressure normal header s items g.met.W.LaneWalk.by_own more h is;
      begin = λ header s items h keeps. BeginsWrittenPhase-kept pressure normal header s items h keeps;
    }
