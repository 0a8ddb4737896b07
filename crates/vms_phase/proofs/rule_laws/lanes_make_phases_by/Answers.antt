-- The main passes' own events say that each lane has its pass, and each lane's passes made its acts.
use Rattle.vms_file_order.proofs.Common.{StandOnce-lanes}
use Rattle.vms_world.specs.Common.{lanes_of}
use Rattle.vms_phase.proofs.LanesMade.{MakeInAnyOrder-lanes, answers-merged}
use Rattle.vms_phase.proofs.rule_laws.lanes_make_phases_by.Goals as goal

pub returns-clause-makes : goal.returns-clause-makes
returns-clause-makes g c header w items hs told made =
    let once = StandOnce-lanes header.layout items in
    let lanes = lanes_of header.layout items in
    MakeInAnyOrder-lanes header (g.P.Rule.answers c.args.rules.now.pressure)
    (g.N.Rule.answers c.args.rules.now.normal) w
    items hs told made
    (c.whole_lanes.ensures.lanes lanes hs.pages once made.pages)
    (c.whole_lanes-2.ensures.lanes lanes hs.events once made.events)
    (c.whole_lanes-3.ensures.lanes lanes hs.counters once made.counters)

pub returns-clause-answers : goal.returns-clause-answers
returns-clause-answers g c header w items hs told made up known =
    answers-merged header (g.P.Rule.answers c.args.rules.now.pressure) (g.N.Rule.answers c.args.rules.now.normal) w
    items hs told made c.lanes_answer_their_lines.ensures up (c.lanes_stand_once.ensures.among header items known)
