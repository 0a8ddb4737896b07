-- No pass has begun.
use Rattle.vms_phase_checks.proofs.Opened.{Checks-opened}
use Rattle.vms_phase_checks.proofs.checks.PhaseCheck.open.Goals as goal

pub returns : goal.returns
returns g c =
    Checks-opened g.W.LaneWalk.Stands g.W.LaneWalk.pressure g.W.LaneWalk.normal c.args.header.now c.args.base
    c.args.items.now c.in_ok-facts.facts c.in_ok-facts.ensures.0 c.in_ok-facts.registers c.in_ok-facts.ensures.1
    c.cpus.result c.cpus.ensures.value c.in_ok-lanes.lanes c.in_ok-lanes.ensures.acts c.in_ok-lanes.walks
    c.in_ok-lanes.ensures.walks
