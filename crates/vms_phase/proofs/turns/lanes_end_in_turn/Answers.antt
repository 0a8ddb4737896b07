-- Lane by lane, and at the end by the laws of passes.
use Rattle.std.proofs.Common.{ap, ◌∙◌}
use Rattle.std.proofs.Math.Seq.{take-length}
use Rattle.vms_world.specs.Common.{after}
use Rattle.vms_file_order.specs.Common.{ends_from, opening_of}
use Rattle.vms_phase.proofs.EndedLanes.{ended-none, lanes-ended, whole-now, whole-still}
use Rattle.vms_phase.proofs.turns.lanes_end_in_turn.Goals as goal

pub returns-clause-none : goal.returns-clause-none
returns-clause-none g c = ended-none g.T.LineTable.machine g.T.LineTable.passes

pub returns-clause-ended : goal.returns-clause-ended
returns-clause-ended g c lanes n new old pass below has number ended =
    lanes-ended g.T.LineTable.machine g.T.LineTable.passes lanes n new old pass below has number ended
    (λ facts later earlier made is. c.lanes_begin_and_end.ensures.ends facts lanes n later earlier below is made)

pub returns-clause-whole : goal.returns-clause-whole
returns-clause-whole g c lanes n new old first last below has fresh number ended =
    whole-now g.T.LineTable.machine g.T.LineTable.passes lanes n new old last below has number ended first fresh

pub returns-clause-still : goal.returns-clause-still
returns-clause-still g c lanes n i new old pass first last below has number ended before whole =
    whole-still g.T.LineTable.machine g.T.LineTable.passes lanes n new old pass below has number ended i before first
    last whole

pub returns-clause-all : goal.returns-clause-all
returns-clause-all g c lanes main has =
    has.own_events
    ∙ ap (λ ls. after 0 (ends_from g.T.LineTable.passes 1 ls) (opening_of g.T.LineTable.passes lanes))
    (take-length lanes)

pub returns-clause-over : goal.returns-clause-over
returns-clause-over g c lanes main can may once has =
    c.whole_lanes.ensures.ended main.facts lanes main.seen can may once
    (has.own_events
    ∙ ap (λ ls. after 0 (ends_from g.T.LineTable.passes 1 ls) (opening_of g.T.LineTable.passes lanes))
    (take-length lanes))
