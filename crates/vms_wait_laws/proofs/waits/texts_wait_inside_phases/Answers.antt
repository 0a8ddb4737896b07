-- What waits, waits inside.
use Rattle.vms_wait_laws.proofs.InsidePhases.{WaitInsidePhases-asking}
use Rattle.vms_wait_laws.proofs.waits.texts_wait_inside_phases.Goals as goal

pub returns : goal.returns
returns g c asks = WaitInsidePhases-asking g.T.OrderedTexts.texts asks
