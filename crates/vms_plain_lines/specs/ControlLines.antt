-- How a line of the control lane goes on.
use Rattle.std.specs.Prelude.{ℕ, List, Option}
use Rattle.vms_world.specs.Common.{Header, ZoneSize, Item, Lane, TableHistories, page_facts}
use Rattle.vms_world.specs.declared.worlds.World.{World}
use Rattle.vms_file_order.specs.Common.{GoesOnInTables, TableStates, histories_with_line}
use Rattle.vms_answers.specs.declared.answers.Answer.{Answer}
use Rattle.vms_answers.specs.Common.{Tell, steps_of_line}
use Rattle.vms_plain_control.specs.Common.{KnowsPeaks}

-- a line goes on to these states: these are the peaks after it, and its steps in the three tables tell this answer, or
-- none
pub record GoesOnKnowing (header : Header) (pressure normal : ZoneSize → ℕ → ℕ → Type 0) (w : World)
    (lanes : List Lane) (item : Item) (hs : TableHistories) (next : TableStates) (peaks : List ℕ)
    (answer : Option Answer)
    : Type 0 where
  pub line : GoesOnInTables header pressure normal w lanes item hs next
  pub known : KnowsPeaks (page_facts header w)
      (histories_with_line header pressure normal w lanes item hs next line).pages peaks
  pub tells : Tell header w item.lane item.act
      (steps_of_line header pressure normal w lanes item hs next line) answer
