-- Lines of traces ask only inside a phase.
use Rattle.vms_command.specs.Common.{following}
use Rattle.vms_replay.specs.Common.{replaying}
use Rattle.vms_wait_laws.proofs.AskingLines.{traces-ask_inside}
use Rattle.vms_wait_laws.proofs.InsidePhases.{WaitInsidePhases-asking}
use Rattle.vms_wait_laws.proofs.waits.traces_wait_inside_phases.Goals as goal

pub returns : goal.returns
returns g c =
    WaitInsidePhases-asking (following (replaying g.E.Engine.Makes)) (traces-ask_inside g.E.Engine.Makes)
