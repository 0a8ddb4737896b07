-- The volumes from the opening of a phase on to its closing.
use Rattle.vms_replay_phase.proofs.Countings.{AreVolumesOf-counted, CountVolumes-line, CountVolumes-opening}
use Rattle.vms_replay_phase.proofs.Countings.{volumes-counted}
use Rattle.vms_replay_phase.proofs.laws.volumes_count_phases.Goals as goal

pub returns : goal.returns
returns c = record {
  opens = CountVolumes-opening;
  goes_on = CountVolumes-line;
  within = λ header w items v of count. AreVolumesOf-counted header w items v count of;
  closes = volumes-counted;
}
