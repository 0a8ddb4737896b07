-- No step was made, or the last call has ended.
use Rattle.vms_world.specs.Common.{own}
use Rattle.vms_cursors.specs.Calls.{answer_of}
use Rattle.vms_walks.proofs.OpenedCalls.{row-between}
use Rattle.vms_walks.proofs.walks.Walk.is_between_calls.Goals as goal

pub returns-then-not-self : goal.returns-then-not-self
returns-then-not-self g c = λ yes base lane p acts h stands.
    let walk = c.args.self.now in
    row-between c.args.header.now base g.R.ThresholdRules.pressure g.R.ThresholdRules.normal lane p acts walk.begun
    walk.has_stepped walk.cursor (own h p) (answer_of c.args.header.now walk.cursor)
    (λ stepped. absurd cc) stands

pub returns-else-not-self : goal.returns-else-not-self
returns-else-not-self g c = λ yes base lane p acts h stands.
    let walk = c.args.self.now in
    row-between c.args.header.now base g.R.ThresholdRules.pressure g.R.ThresholdRules.normal lane p acts walk.begun
    walk.has_stepped walk.cursor (own h p) (answer_of c.args.header.now walk.cursor)
    (λ stepped. c.has_ended.ensures.ended yes base p (own h p)) stands
