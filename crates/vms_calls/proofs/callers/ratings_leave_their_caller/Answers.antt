use Rattle.vms_calls.specs.Common.{ByNormal, ByPressure}
use Rattle.vms_calls.proofs.CallerLaws.{IsStill, ratings-still, still-leaves, burial-leaves}
use Rattle.vms_calls.proofs.CallSteps.{node-each, refresh-each, turn-each}
use Rattle.vms_calls.proofs.callers.ratings_leave_their_caller.Goals as goal

pub returns : goal.returns
returns g c = record {
  pressure = λ facts n p began steps call h.
      still-leaves facts.layout p steps h
      (node-each IsStill ratings-still facts
      (ByPressure g.R.ThresholdRules.pressure g.R.ThresholdRules.normal) n p began
      steps call);
  normal = λ facts n p began steps call h.
      still-leaves facts.layout p steps h
      (node-each IsStill ratings-still facts (ByNormal g.R.ThresholdRules.normal) n p began steps call);
  refresh = λ facts p began steps call h.
      still-leaves facts.layout p steps h
      (refresh-each IsStill ratings-still facts g.R.ThresholdRules.normal p began steps call);
  burial = λ facts cpu layout p began steps call h.
      burial-leaves facts g.R.ThresholdRules.normal layout cpu p began steps call h;
  turn = λ header base n order most p began steps call h.
      still-leaves header.layout p steps h
      (turn-each IsStill ratings-still header base g.R.ThresholdRules.pressure g.R.ThresholdRules.normal n order most p
      began steps call.0 call.1);
}
