-- Before the first act.
use Rattle.vms_line_walks.proofs.line_walks.LineWalkLaneWalk.begin.Goals as goal

pub returns : goal.returns
returns c header base lane p acts h none =
    (c.begin.ensures.stands header base lane p acts h none, c.begin.ensures.within header.layout lane acts)
