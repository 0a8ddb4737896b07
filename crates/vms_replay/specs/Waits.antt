-- The lines of an open phase that wait for its outcome, and how they are printed.
use Rattle.std.specs.Prelude.{◌≡◌, ℕ, ◌<◌, nat_eq, ◌⊎◌, List, [], ◌∷◌, ◌++◌, flat_map, if◌then◌else◌}
use Rattle.vms_world.specs.Common.{Header, Item}
use Rattle.vms_answers.specs.Common.{answer_line, NumberedAnswer}
use Rattle.vms_command.specs.Common.{refused_line}
use Rattle.vms_stream.specs.Common.{Text, spelled}
use Rattle.vms_replay.specs.declared.waits.Wait.{Wait}
use Rattle.vms_replay.specs.declared.waits.Wait.TheVariants as waits
use Rattle.vms_replay.specs.MadePhases.{PastPhase, answers_in}
use Rattle.vms_replay.specs.Replaying.{answer_text, has_some, is_asking}

-- what a line that waits prints, by the answers of its phase
abbrev pub wait_text : Header → List NumberedAnswer → Wait → List ℕ
wait_text header answers (waits.Answer n) = answer_text header n answers
wait_text header answers (waits.Refused cause n) = refused_line n cause

-- the numbers of the lines among them that answer
abbrev pub asked_numbers : List Wait → List ℕ
asked_numbers [] = []
asked_numbers (waits.Answer n ∷ rest) = n ∷ asked_numbers rest
asked_numbers (waits.Refused cause n ∷ rest) = asked_numbers rest

-- the numbers of the lines of a phase that answer
abbrev pub asking_numbers : List Item → List ℕ
asking_numbers [] = []
asking_numbers (item ∷ items) =
    if is_asking item.act then item.number ∷ asking_numbers items else asking_numbers items

-- these answers are of lines of these numbers, in this order, of which some may have none
abbrev pub AreAnswersOf : List NumberedAnswer → List ℕ → Type 0
AreAnswersOf [] numbers = Unit {0}
AreAnswersOf (answer ∷ answers) [] = ⊥
AreAnswersOf (answer ∷ answers) (n ∷ numbers) =
    ((answer.number ≡ n) × AreAnswersOf answers numbers) ⊎ AreAnswersOf (answer ∷ answers) numbers

-- what the lines print that wait, where each that answers takes the next answer, if that is its own
abbrev pub written_if_own : Header → ℕ → List NumberedAnswer → (List NumberedAnswer → List ℕ) → List ℕ
written_if_own header n [] later = later []
written_if_own header n (next ∷ rest) later =
    if nat_eq next.number n then answer_line header n next.answer ++ later rest else later (next ∷ rest)

abbrev pub written : Header → List Wait → List NumberedAnswer → List ℕ
written header [] answers = []
written header (waits.Answer n ∷ waiting) answers = written_if_own header n answers (written header waiting)
written header (waits.Refused cause n ∷ waiting) answers = refused_line n cause ++ written header waiting answers

-- a number below all of these
abbrev pub IsBelow : ℕ → List ℕ → Type 0
IsBelow n [] = Unit {0}
IsBelow n (m ∷ ms) = (n < m) × IsBelow n ms

-- each number is below all that follow it
abbrev pub Ascend : List ℕ → Type 0
Ascend [] = Unit {0}
Ascend (n ∷ ns) = IsBelow n ns × Ascend ns

-- lines that wait are those whose texts wait, but for the lines that print nothing
pub record TellsWaits (header : Header) (waiting : List Wait) (texts : List (Text PastPhase)) : Type 0 where
  pub same_text : (made : PastPhase) →
      flat_map (spelled made) texts ≡ flat_map (wait_text header (answers_in header made)) waiting
  pub some : has_some texts ≡ has_some waiting
