use Rattle.vms_core.proofs.SettledEnds.{IsBase-ended, within-volumes, opening_peaks-within}
use Rattle.vms_core.proofs.laws.ends.settled_ends_may_begin.Goals as goal

pub returns : goal.returns
returns c = record { base = IsBase-ended; totals = within-volumes; peaks = opening_peaks-within }
