-- What the lines of a phase answer, by its histories.
use Rattle.std.specs.Prelude.{ℕ, List, [], ◌∷◌, map, reverse, if◌then◌else◌, Option, Some, None}
use Rattle.vms_world.specs.Common.{Header, Event, own, Item, Lane, is_lane, lanes_of, TableHistories}
use Rattle.vms_world.specs.declared.worlds.World.{World}
use Rattle.vms_file_order.specs.Common.{pass_of}
use Rattle.vms_answers.specs.declared.answers.Answer.{Answer}
use Rattle.vms_answers.specs.Answers.{LaneSteps, read_act}

-- the answer of the line of this number
pub record NumberedAnswer : Type 0 where
  pub number : ℕ
  pub answer : Answer

-- the steps that a caller made, the oldest first
abbrev pub steps_by : {K : Type 0} → List (Event K) → ℕ → List K
steps_by h p = map (λ e. e.step) (reverse (own h p))

-- those of the pass of a lane
abbrev pub steps_of : List Lane → TableHistories → Lane → LaneSteps
steps_of lanes hs lane = record {
  pages = steps_by hs.pages (pass_of lanes lane);
  events = steps_by hs.events (pass_of lanes lane);
  counters = steps_by hs.counters (pass_of lanes lane);
}

-- with other steps left of one lane
abbrev pub with_left : Lane → LaneSteps → (Lane → LaneSteps) → Lane → LaneSteps
with_left lane steps left other = if is_lane lane other then steps else left other

abbrev pub with_answer : ℕ → Option Answer → List NumberedAnswer → List NumberedAnswer
with_answer n None answers = answers
with_answer n (Some answer) answers = record { number = n; answer = answer } ∷ answers

-- the answers of lines, the oldest first, each read from what is left of its lane's steps
abbrev pub read_lines : Header → World → List Item → (Lane → LaneSteps) → List NumberedAnswer
read_lines header w [] left = []
read_lines header w (item ∷ items) left =
    let read : Option Answer × LaneSteps = read_act header w item.lane item.act (left item.lane) in
    with_answer item.number read.0 (read_lines header w items (with_left item.lane read.1 left))

-- the answers of the lines of a phase from this world
abbrev pub answers_of : Header → World → List Item → TableHistories → List NumberedAnswer
answers_of header w items hs = read_lines header w items (steps_of (lanes_of header.layout items) hs)
