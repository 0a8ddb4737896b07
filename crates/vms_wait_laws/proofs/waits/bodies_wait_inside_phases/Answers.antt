-- What waits, waits inside.
use Rattle.vms_command.specs.Common.{following}
use Rattle.vms_wait_laws.proofs.InsidePhases.{WaitInsidePhases-asking}
use Rattle.vms_wait_laws.proofs.waits.bodies_wait_inside_phases.Goals as goal

pub returns : goal.returns
returns g c asks = WaitInsidePhases-asking (following g.B.Body.command) asks
