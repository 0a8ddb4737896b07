-- What an engine makes of the lines of a phase.
use Rattle.std.specs.Prelude.{◌≡◌, List, [], ◌∷◌, Option}
use Rattle.vms_group_core.specs.declared.trees.Tree.{Tree}
use Rattle.vms_group_phase.specs.declared.items.GroupItem.{GroupItem}
use Rattle.vms_group_phase.specs.declared.items.NumberedValue.{NumberedValue}
use Rattle.vms_group_phase.specs.declared.worlds.GroupWorld.{GroupWorld}
use Rattle.vms_group_phase.specs.Common.{group_values, left_group_world}
use Rattle.vms_stream.specs.Common.{Grows}
use Rattle.vms_groups.specs.PastPhases.{IsPhaseFrom, PastGroupPhase}

-- an engine made a phase of these lines from this world, by which what was made grew: the world and the values are
-- those that the phase leaves and tells
pub record MakesGroupPhase (tree : Tree) (w : GroupWorld) (items : List GroupItem)
    (made made' : Option (List PastGroupPhase)) (left : GroupWorld) (values : List NumberedValue) : Type 0 where
  pub phase : PastGroupPhase
  pub from : IsPhaseFrom tree w items phase
  pub world : left ≡ left_group_world tree w items phase.events
  pub told : values ≡ group_values tree w items phase.events
  pub grows : Grows made made' (phase ∷ [])
