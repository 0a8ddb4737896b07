-- For other crates too: the answers of lanes, merged in the order of the lines of a phase.
use Rattle.std.proofs.Common.{◌≡◌, ℕ, suc, ◌+◌, ◌<◌, nat_eq, Bool, true, false, List, [], ◌∷◌, ◌++◌, map, refl, sym, ap}
use Rattle.std.proofs.Common.{◌∙◌, arith, if◌then◌else◌, Option, Some, None}
use Rattle.std.proofs.lemmas.Bool.Decides.{nat_tests}
use Rattle.std.specs.List.{filter}
use Rattle.std.specs.List.Sorted.{IsStrictlyIncreasing}
use Rattle.vms_world.specs.Common.{Header, Item, Lane, is_lane, lane_item, lane_items}
use Rattle.vms_world.specs.declared.worlds.World.{World}
use Rattle.vms_file_order.proofs.Common.{is_lane-same, is_lane-self, is_lane-sym}
use Rattle.vms_answers.specs.declared.answers.Answer.{Answer}
use Rattle.vms_answers.specs.Common.{LaneSteps, read_act, NumberedAnswer, read_lines, with_answer, with_left, merged}
use Rattle.vms_answers.specs.Common.{read_lane, taken_answer, with_told}

-- lines, and answers, whose numbers are all above one
abbrev LinesAbove : ℕ → List Item → Type 0
LinesAbove n [] = Unit {0}
LinesAbove n (item ∷ items) = (n < item.number) × LinesAbove n items

abbrev AnswersAbove : ℕ → List NumberedAnswer → Type 0
AnswersAbove n [] = Unit {0}
AnswersAbove n (answer ∷ answers) = (n < answer.number) × AnswersAbove n answers

above-lower : (m n : ℕ) (items : List Item) → m < n → LinesAbove n items → LinesAbove m items
above-lower m n [] less above = tt
above-lower m n (item ∷ items) less (first, rest) = (omega arith, above-lower m n items less rest)

-- numbers that rise do so after the first one, and those are above it
rising-tail : (x : ℕ) (xs : List ℕ) → IsStrictlyIncreasing (x ∷ xs) → IsStrictlyIncreasing xs
rising-tail x xs up k within =
    let step : suc k + 1 ≡ suc (k + 1) = omega arith in
    rw step at (up (suc k) (omega arith))

lines-above : (n : ℕ) (items : List Item) → IsStrictlyIncreasing (n ∷ map (λ item. item.number) items)
    → LinesAbove n items
lines-above n [] up = tt
lines-above n (item ∷ items) up =
    let first : n < item.number = up 0 (omega arith) in (
      first,
      above-lower n item.number items first (lines-above item.number items
          (rising-tail n (item.number ∷ map (λ item. item.number) items) up)),
    )

answer-above : (n m : ℕ) (answer : Option Answer) (answers : List NumberedAnswer) → n < m → AnswersAbove n answers
    → AnswersAbove n (with_answer m answer answers)
answer-above n m None answers less above = above
answer-above n m (Some answer) answers less above = (less, above)

-- a line's own answer stands before those of later lines
taken_answer-own : (n : ℕ) (answer : Option Answer) (answers : List NumberedAnswer) → AnswersAbove n answers
    → taken_answer n (with_answer n answer answers) ≡ (with_answer n answer [], answers)
taken_answer-own n None [] above = refl
taken_answer-own n None (next ∷ answers) (first, rest) =
    let other : nat_eq next.number n ≡ false = grind (arith, nat_tests) in rw other refl
taken_answer-own n (Some answer) answers above =
    let own : nat_eq n n ≡ true = grind (arith, nat_tests) in rw own refl

with_answer-append : (n : ℕ) (answer : Option Answer) (answers : List NumberedAnswer)
    → with_answer n answer answers ≡ with_answer n answer [] ++ answers
with_answer-append n None answers = refl
with_answer-append n (Some answer) answers = refl

-- lanes that are told the same are merged to the same
pub merged-everywhere : (items : List Item) (t u : Lane → List NumberedAnswer) → ((lane : Lane) → t lane ≡ u lane)
    → merged items t ≡ merged items u
merged-everywhere [] t u same = refl
merged-everywhere (item ∷ items) t u same =
    let l = item.lane in let n = item.number in
    let first : List NumberedAnswer × List NumberedAnswer = taken_answer n (u l) in
    ap (λ (answers : List NumberedAnswer).
    (taken_answer n answers).0 ++ merged items (with_told l (taken_answer n answers).1 t)) (same l)
    ∙ ap (λ (more : List NumberedAnswer). first.0 ++ more)
    (merged-everywhere items (with_told l first.1 t) (with_told l first.1 u) (λ lane. by first.1 lane (is_lane l lane)))
  where
    by : (answers : List NumberedAnswer) (lane : Lane) (b : Bool)
        → (if b then answers else t lane) ≡ (if b then answers else u lane)
    by answers lane true = refl
    by answers lane false = same lane

module _ (header : Header) (w : World) where
  -- what the lines of a lane answer has the numbers of lines
  read_lane-above : (n : ℕ) (lane : Lane) (items : List Item) (steps : LaneSteps) → LinesAbove n items
      → AnswersAbove n (read_lane header w lane (lane_items lane items) steps).0
  read_lane-above n lane [] steps above = tt
  read_lane-above n lane (item ∷ items) steps (first, rest) =
      by (is_lane lane item.lane) (λ later. read_lane-above n lane items later rest)
    where
      by : (b : Bool) → ((later : LaneSteps) → AnswersAbove n (read_lane header w lane (lane_items lane items) later).0)
          → AnswersAbove n (read_lane header w lane (map lane_item
          (if b then item ∷ filter (λ item. is_lane lane item.lane) items
          else filter (λ item. is_lane lane item.lane) items)) steps).0
      by true more =
          let read : Option Answer × LaneSteps = read_act header w lane item.act steps in
          answer-above n item.number read.0 (read_lane header w lane (lane_items lane items) read.1).0 first
          (more read.1)
      by false more = more steps

  -- what each lane answers of these lines
  abbrev told : List Item → (Lane → LaneSteps) → Lane → List NumberedAnswer
  told items left lane = (read_lane header w lane (lane_items lane items) (left lane)).0

  pub lanes-answer : (items : List Item) (left : Lane → LaneSteps)
      → IsStrictlyIncreasing (map (λ item. item.number) items)
      → read_lines header w items left ≡ merged items (told items left)
  lanes-answer [] left up = refl
  lanes-answer (item ∷ items) left up =
      let numbers = map (λ (item : Item). item.number) items in
      ap (with_answer n read.0) (lanes-answer items after (rising-tail n numbers up))
      ∙ with_answer-append n read.0 (merged items (told items after))
      ∙ ap (λ (more : List NumberedAnswer). with_answer n read.0 [] ++ more)
      (merged-everywhere items (told items after) (with_told l rest (told (item ∷ items) left))
      (λ lane. sym (by lane (is_lane l lane) refl)))
      ∙ ap (λ (first : List NumberedAnswer × List NumberedAnswer).
      first.0 ++ merged items (with_told l first.1 (told (item ∷ items) left)))
      (sym (ap (taken_answer n) first_told ∙ taken_answer-own n read.0 rest
      (read_lane-above n l items read.1 (lines-above n items up))))
    where
      l : Lane
      l = item.lane

      n : ℕ
      n = item.number

      read : Option Answer × LaneSteps
      read = read_act header w item.lane item.act (left item.lane)

      after : Lane → LaneSteps
      after = with_left item.lane read.1 left

      rest : List NumberedAnswer
      rest = (read_lane header w item.lane (lane_items item.lane items) read.1).0

      first_told : told (item ∷ items) left item.lane ≡ with_answer item.number read.0 rest
      first_told = ap (λ b. (read_lane header w item.lane (map lane_item
          (if b then item ∷ filter (λ (x : Item). is_lane item.lane x.lane) items
          else filter (λ (x : Item). is_lane item.lane x.lane) items)) (left item.lane)).0) (is_lane-self item.lane)

      by : (lane : Lane) (b : Bool) → is_lane item.lane lane ≡ b
          → (if b then rest else told (item ∷ items) left lane)
          ≡ (read_lane header w lane (lane_items lane items) (if b then read.1 else left lane)).0
      by lane true is =
          ap (λ (x : Lane). (read_lane header w x (lane_items x items) read.1).0) (is_lane-same item.lane lane is)
      by lane false is =
          ap (λ b. (read_lane header w lane (map lane_item
          (if b then item ∷ filter (λ (x : Item). is_lane lane x.lane) items
          else filter (λ (x : Item). is_lane lane x.lane) items)) (left lane)).0) (is_lane-sym lane item.lane ∙ is)
