-- The answers of the lines so far in an open phase.
use Rattle.std.specs.Prelude.{◌≡◌, ℕ, true, List, ◌++◌, All, if◌then◌else◌}
use Rattle.vms_world.specs.Common.{Header, ZoneSize, Item, Lane, is_among, TableHistories}
use Rattle.vms_world.specs.declared.worlds.World.{World}
use Rattle.vms_file_order.specs.Common.{GoesOnInTables, TableStates}
use Rattle.vms_answers.specs.Answers.{LaneSteps, then_steps}
use Rattle.vms_answers.specs.PhaseAnswers.{NumberedAnswer, read_lines, steps_of}

-- the steps of a line that goes on in the three tables
abbrev pub steps_of_line : (header : Header) (pressure normal : ZoneSize → ℕ → ℕ → Type 0) (w : World)
    (lanes : List Lane) (item : Item) (hs : TableHistories) (next : TableStates)
    → GoesOnInTables header pressure normal w lanes item hs next → LaneSteps
steps_of_line header pressure normal w lanes item hs next line = record {
  pages = line.pages.steps;
  events = line.events.steps;
  counters = line.counters.steps;
}

-- what is left of each lane's steps, where its pass has made those of these histories and others come after them
abbrev pub then_later : List Lane → TableHistories → (Lane → LaneSteps) → Lane → LaneSteps
then_later lanes hs later lane =
    if is_among lane lanes then then_steps (steps_of lanes hs lane) (later lane) else later lane

-- lines of these lanes have given these answers: whatever lines and steps come later, reading the lines reads exactly
-- the steps that the histories have of the lanes
pub record Answered (header : Header) (w : World) (lanes : List Lane) (items : List Item) (hs : TableHistories)
    (answers : List NumberedAnswer) : Type 0 where
  pub among : All (λ item. is_among item.lane lanes ≡ true) items
  pub reads : (later : List Item) (left : Lane → LaneSteps) →
      read_lines header w (items ++ later) (then_later lanes hs left) ≡ answers ++ read_lines header w later left
