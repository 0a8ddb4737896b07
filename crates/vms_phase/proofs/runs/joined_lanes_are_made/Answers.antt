-- No lane is left, so all have ended.
use Rattle.vms_file_order.proofs.Common.{StandOnce-lanes}
use Rattle.vms_world.specs.Common.{lanes_of}
use Rattle.vms_phase.proofs.JoinedPhases.{AreMadeByLanes-joined, AreTold-own, all-joined, lanes-joined}
use Rattle.vms_phase.proofs.runs.joined_lanes_are_made.Goals as goal

pub returns-clause-ended : goal.returns-clause-ended
returns-clause-ended g c header tables w items mains joined have =
    (all-joined header (g.P.Rule.answers c.args.rules.now.pressure) (g.N.Rule.answers c.args.rules.now.normal) tables w
    items mains (lanes_of header.layout items) joined have).ended

pub returns-clause-lanes : goal.returns-clause-lanes
returns-clause-lanes g c header tables w items mains joined have =
    let pressure = g.P.Rule.answers c.args.rules.now.pressure in
    let normal = g.N.Rule.answers c.args.rules.now.normal in
    let lanes = lanes_of header.layout items in
    lanes-joined header pressure normal tables w items mains 1 lanes joined
    (all-joined header pressure normal tables w items mains lanes joined have).each

pub returns-clause-told : goal.returns-clause-told
returns-clause-told g c header tables w items mains joined have =
    let pressure = g.P.Rule.answers c.args.rules.now.pressure in
    let normal = g.N.Rule.answers c.args.rules.now.normal in
    let lanes = lanes_of header.layout items in
    AreTold-own header pressure normal tables w items mains 1 lanes joined
    (all-joined header pressure normal tables w items mains lanes joined have).each
    (StandOnce-lanes header.layout items)

pub returns-clause-made : goal.returns-clause-made
returns-clause-made g c header tables w items mains joined told have tells complete =
    AreMadeByLanes-joined header (g.P.Rule.answers c.args.rules.now.pressure)
    (g.N.Rule.answers c.args.rules.now.normal) tables w items mains told joined have tells complete
