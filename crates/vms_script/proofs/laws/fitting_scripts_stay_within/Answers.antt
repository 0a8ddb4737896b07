use Rattle.vms_script.proofs.Fitting.{FittingScriptsStayWithin-holds}
use Rattle.vms_script.proofs.laws.fitting_scripts_stay_within.Goals as goal

pub returns : goal.returns
returns c = FittingScriptsStayWithin-holds
