use Rattle.vms_core.proofs.OwnSteps.{Owns-goes_on, AddsToPlace-goes_on, AddsToSystem-goes_on, Acknowledges-goes_on}
use Rattle.vms_core.proofs.laws.knowledge.own_steps_stay_allowed.Goals as goal

pub returns : goal.returns
returns c = record {
  owns = Owns-goes_on;
  place = AddsToPlace-goes_on;
  system = AddsToSystem-goes_on;
  acknowledges = Acknowledges-goes_on;
}
