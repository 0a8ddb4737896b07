-- The acts that were made, and the steps of the next one with some that end it.
use Rattle.vms_world.specs.Common.{own}
use Rattle.vms_walks.specs.Walks.{under_way_of}
use Rattle.vms_walks.proofs.WalkAlong.{functions-answer, stands-along, stands-others}
use Rattle.vms_walks.proofs.laws.walks_go_along.Goals as goal

pub returns : goal.returns
returns g c =
    let P = g.R.ThresholdRules.pressure in
    let N = g.R.ThresholdRules.normal in
    record {
      along = λ header base lane p acts walk h is stands.
          stands-along header base P N lane p acts walk.begun (under_way_of walk) h is
          (λ cursor. c.cursors_can_be_completed.ensures.completed header base p (own h p) cursor
          (functions-answer header P N g.met.R.RuleFunctions.pressure_is g.met.R.RuleFunctions.normal_is)) stands;
      others = λ header base lane p acts walk e h other stands.
          stands-others header base P N lane p acts walk e h other stands;
    }
