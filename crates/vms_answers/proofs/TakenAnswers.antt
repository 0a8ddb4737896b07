-- The next answer of a lane: a line takes it if it is its own, and leaves it otherwise.
use Rattle.std.proofs.Common.{◌≡◌, ◌≢◌, ℕ, zero, suc, ◌∙◌, ◌<◌, nat_eq, true, false, List, [], ◌∷◌, map, drop, refl, ap}
use Rattle.std.proofs.Common.{arith, get_or, length, subst, sym}
use Rattle.std.proofs.lemmas.Bool.Decides.{nat_tests}
use Rattle.vms_answers.specs.declared.answers.NumberedAnswer as code
use Rattle.vms_answers.specs.Common.{NumberedAnswer, answer_of_kept, taken_answer}

module _ (number : ℕ) (answer : NumberedAnswer) (answers : List NumberedAnswer) where
  taken_answer-own : answer.number ≡ number → taken_answer number (answer ∷ answers) ≡ (answer ∷ [], answers)
  taken_answer-own is = let own : nat_eq answer.number number ≡ true = grind (arith, nat_tests) in rw own refl

  taken_answer-other : answer.number ≢ number → taken_answer number (answer ∷ answers) ≡ ([], answer ∷ answers)
  taken_answer-other other = let apart : nat_eq answer.number number ≡ false = grind (arith, nat_tests) in rw apart refl

-- the next answer of a lane, and those after it
told-next : (answers : List code.NumberedAnswer) (next : ℕ) (answer : code.NumberedAnswer) → next < length answers
    → answer ≡ get_or answers next answer
    → drop next (map answer_of_kept answers) ≡ answer_of_kept answer ∷ drop (suc next) (map answer_of_kept answers)
told-next [] next answer within is = absurd (omega arith)
told-next (x ∷ answers) zero answer within is =
    ap (λ (y : code.NumberedAnswer). answer_of_kept y ∷ map answer_of_kept answers) (sym is)
told-next (x ∷ answers) (suc next) answer within is = told-next answers next answer (omega arith) is

module _ (answers : List code.NumberedAnswer) (next number : ℕ) (answer : code.NumberedAnswer)
    (within : next < length answers) (is : answer ≡ get_or answers next answer) where
  abbrev told : List NumberedAnswer
  told = map answer_of_kept answers

  pub taken_answer-next : (answer_of_kept answer).number ≡ number
      → taken_answer number (drop next told) ≡ (answer_of_kept answer ∷ [], drop (suc next) told)
  taken_answer-next own =
      ap (taken_answer number) (told-next answers next answer within is)
      ∙ taken_answer-own number (answer_of_kept answer) (drop (suc next) told) own

  pub taken_answer-none : (answer_of_kept answer).number ≢ number →
      taken_answer number (drop next told) ≡ ([], drop next told)
  taken_answer-none other =
      subst (λ (left : List NumberedAnswer). taken_answer number left ≡ ([], left))
      (sym (told-next answers next answer within is))
      (taken_answer-other number (answer_of_kept answer) (drop (suc next) told) other)
