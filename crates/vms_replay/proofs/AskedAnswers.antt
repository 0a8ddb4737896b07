-- The answers of a phase are of lines whose acts answer.
use Rattle.std.proofs.Common.{◌≡◌, ℕ, Bool, true, false, List, [], ◌∷◌, refl, Option, Some, None, if◌then◌else◌, inl}
use Rattle.std.proofs.Common.{inr}
use Rattle.vms_world.specs.Common.{Header, Act, Item, Lane, Control, Cpu, lanes_of, TableHistories}
use Rattle.vms_answers.specs.declared.answers.Answer.{Answer}
use Rattle.vms_answers.specs.Common.{LaneSteps, read_act, NumberedAnswer, answers_of, read_lines, steps_of, with_answer}
use Rattle.vms_answers.specs.Common.{with_left}
use Rattle.vms_text.specs.declared.acts.Act.TheVariants.{Dead}
use Rattle.vms_world.specs.declared.worlds.World.{World}
use Rattle.vms_replay.specs.Common.{is_asking, AreAnswersOf, asking_numbers}

module _ (header : Header) (w : World) where
  silent : (lane : Lane) (act : Act) (steps : LaneSteps) → is_asking act ≡ false
      → (read_act header w lane act steps).0 ≡ None
  silent (Cpu d) (Dead c) steps is = refl
  silent Control (Dead c) steps is = refl
  silent _ _ steps is = cc

  -- what a line answers, if its act does
  AreAnswersOf-line : (item : Item) (items : List Item) (answer : Option Answer) (rest : List NumberedAnswer)
      → (is_asking item.act ≡ false → answer ≡ None) → AreAnswersOf rest (asking_numbers items)
      → AreAnswersOf (with_answer item.number answer rest) (asking_numbers (item ∷ items))
  AreAnswersOf-line item items answer rest tells of = by (is_asking item.act) answer tells
    where
      later : (n : ℕ) (answers : List NumberedAnswer) → AreAnswersOf answers (asking_numbers items)
          → AreAnswersOf answers (n ∷ asking_numbers items)
      later n [] are = tt
      later n (first ∷ answers) are = inr are

      by : (asks : Bool) (answer : Option Answer) → (asks ≡ false → answer ≡ None)
          → AreAnswersOf (with_answer item.number answer rest)
          (if asks then item.number ∷ asking_numbers items else asking_numbers items)
      by true None told = later item.number rest of
      by true (Some said) told = inl (refl, of)
      by false None told = of
      by false (Some said) told = let none = told refl in absurd cc

  AreAnswersOf-lines : (items : List Item) (left : Lane → LaneSteps)
      → AreAnswersOf (read_lines header w items left) (asking_numbers items)
  AreAnswersOf-lines [] left = tt
  AreAnswersOf-lines (item ∷ items) left =
      let read : Option Answer × LaneSteps = read_act header w item.lane item.act (left item.lane) in
      AreAnswersOf-line item items read.0 (read_lines header w items (with_left item.lane read.1 left))
      (silent item.lane item.act (left item.lane)) (AreAnswersOf-lines items (with_left item.lane read.1 left))

  pub AreAnswersOf-answers : (items : List Item) (hs : TableHistories)
      → AreAnswersOf (answers_of header w items hs) (asking_numbers items)
  AreAnswersOf-answers items hs = AreAnswersOf-lines items (steps_of (lanes_of header.layout items) hs)
