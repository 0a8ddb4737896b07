-- Complete histories lead to a world of the header.
use Rattle.vms_world.proofs.PhaseEnds.{IsWorldOf-left_by, StayWithinVolumes-lines}
use Rattle.vms_world.proofs.laws.phases_keep_worlds.Goals as goal

pub returns : goal.returns
returns c = record {
  world = λ header w items hs of complete spend fit nothing. IsWorldOf-left_by header w items hs of complete spend fit
      nothing;
  within = StayWithinVolumes-lines;
}
