-- Volumes after lines, line by line.
use Rattle.vms_file_order.proofs.PhaseVolumes.{CoversVolumes-left, FitVolumes-fitting, StayWithinVolumes-fitting}
use Rattle.vms_file_order.proofs.volumes.fitting_lines_stay_within_volumes.Goals as goal

pub returns : goal.returns
returns c = record { fit = FitVolumes-fitting; within = StayWithinVolumes-fitting; covers = CoversVolumes-left }
