-- A front of a script, and the line after it.
use Rattle.vms_file_order.proofs.FittingFronts.{Fits-front, known-next}
use Rattle.vms_file_order.proofs.fitting_lines.fronts_fit.Goals as goal

pub returns : goal.returns
returns c = record { front = Fits-front; next = known-next }
