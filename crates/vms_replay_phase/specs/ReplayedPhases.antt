-- What is known of a phase that was replayed.
use Rattle.std.specs.Prelude.{◌≡◌, ℕ, List}
use Rattle.vms_world.specs.Common.{Header, ZoneSize, Item, TableHistories, left_by}
use Rattle.vms_answers.specs.Common.{NumberedAnswer, answers_of}
use Rattle.vms_file_order.specs.Common.{IsFileOrderPhase}
use Rattle.vms_world.specs.declared.worlds.World.{World}

-- there are histories of a phase of these lines in file order, from one world, that leave another, and the answers that
-- the lines tell in them are told
pub record IsReplayed (header : Header) (pressure normal : ZoneSize → ℕ → ℕ → Type 0) (w : World) (items : List Item)
    (left : World) (Told : List NumberedAnswer → Type 0) : Type 0 where
  pub histories : TableHistories
  pub order : IsFileOrderPhase header pressure normal w items histories
  pub world : left ≡ left_by header w items histories
  pub answers : Told (answers_of header w items histories)
