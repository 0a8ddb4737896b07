-- What an engine makes of the lines of a phase.
use Rattle.std.specs.Prelude.{◌≡◌, List, [], ◌∷◌, Option}
use Rattle.vms_world.specs.Common.{Header, Item, TableHistories, left_by}
use Rattle.vms_answers.specs.Common.{NumberedAnswer, answers_of}
use Rattle.vms_stream.specs.Common.{Grows}
use Rattle.vms_world.specs.declared.worlds.World.{World}
use Rattle.vms_replay.specs.MadePhases.{PastPhase, phase_of}

-- an engine made these lines a phase from this world, with histories that `Makes` allows: it leaves the world after
-- them, what the lines answer was told, and what was made grew by the phase
pub record EngineMakesPhase (Makes : Header → World → List Item → TableHistories → Type 0) (header : Header) (w : World)
    (items : List Item) (made made' : Option (List PastPhase)) (Told : List NumberedAnswer → Type 0) (left : World)
    : Type 0 where
  pub histories : TableHistories
  pub makes : Makes header w items histories
  pub world : left ≡ left_by header w items histories
  pub answers : Told (answers_of header w items histories)
  pub grows : Grows made made' (phase_of header w items histories ∷ [])
