-- What begins after the same lists is the same phase.
use Rattle.vms_history_checks.proofs.OneVerdict.{not-both, one-cause}
use Rattle.vms_history_checks.proofs.laws.lines_have_one_verdict.Goals as goal

pub returns : goal.returns
returns g c =
    let pressure = g.W.LaneWalk.pressure in
    let normal = g.W.LaneWalk.normal in
    let gives = g.met.W.LaneWalk.gives in
    let exact = g.met.W.LaneWalk.exact in
    record {
      cause = λ header segments hs said one other valid stands is_one is_other.
          one-cause header pressure normal valid gives exact segments stands hs said one other is_one is_other;
      taken = λ header segments hs next said cause valid stands is begun fault.
          not-both header pressure normal valid gives exact segments stands hs said cause next is begun fault;
    }
