-- The answers of lanes, merged in the order of the lines of a phase.
use Rattle.std.specs.Prelude.{◌≡◌, ℕ, nat_eq, List, [], ◌∷◌, ◌++◌, map, if◌then◌else◌, Option}
use Rattle.std.specs.List.Sorted.{IsStrictlyIncreasing}
use Rattle.vms_world.specs.Common.{Header, Item, Lane, LaneItem, is_lane, lane_items}
use Rattle.vms_world.specs.declared.worlds.World.{World}
use Rattle.vms_answers.specs.declared.answers.Answer.{Answer}
use Rattle.vms_answers.specs.Answers.{LaneSteps, read_act}
use Rattle.vms_answers.specs.PhaseAnswers.{NumberedAnswer, read_lines, with_answer}

-- the answers of a lane's lines, the oldest first, as the steps of its passes tell them, and the steps after those
abbrev pub read_lane : Header → World → Lane → List LaneItem → LaneSteps → List NumberedAnswer × LaneSteps
read_lane header w lane [] steps = ([], steps)
read_lane header w lane (item ∷ items) steps =
    let read : Option Answer × LaneSteps = read_act header w lane item.act steps in
    let rest : List NumberedAnswer × LaneSteps = read_lane header w lane items read.1 in
    (with_answer item.number read.0 rest.0, rest.1)

-- the answer of a line, if it is the first of these, and the others
abbrev pub taken_answer : ℕ → List NumberedAnswer → List NumberedAnswer × List NumberedAnswer
taken_answer number [] = ([], [])
taken_answer number (answer ∷ answers) =
    if nat_eq answer.number number then (answer ∷ [], answers) else ([], answer ∷ answers)

-- with other answers left of one lane
abbrev pub with_told : Lane → List NumberedAnswer → (Lane → List NumberedAnswer) → Lane → List NumberedAnswer
with_told lane answers told other = if is_lane lane other then answers else told other

-- the answers of lanes in the order of these lines: each line takes the next answer of its lane, if that is its own
abbrev pub merged : List Item → (Lane → List NumberedAnswer) → List NumberedAnswer
merged [] told = []
merged (item ∷ items) told =
    let first : List NumberedAnswer × List NumberedAnswer = taken_answer item.number (told item.lane) in
    first.0 ++ merged items (with_told item.lane first.1 told)

-- what the lines of a phase answer is what each lane's lines answer, merged
abbrev pub LanesAnswer : Type 0
LanesAnswer = (header : Header) (w : World) (items : List Item) (left : Lane → LaneSteps)
    → IsStrictlyIncreasing (map (λ item. item.number) items)
    → read_lines header w items left
    ≡ merged items (λ lane. (read_lane header w lane (lane_items lane items) (left lane)).0)
