-- What lines print that wait: each that answers finds its answer next, since numbers ascend.
use Rattle.std.proofs.Common.{◌≡◌, ℕ, ◌+◌, suc, ◌<◌, nat_eq, Bool, true, false, List, [], ◌∷◌, ◌++◌, map, refl, sym, ap}
use Rattle.std.proofs.Common.{subst, ◌∙◌, arith, add-one, if◌then◌else◌, inl, inr, get_or}
use Rattle.std.proofs.lemmas.Bool.Decides.{nat_tests}
use Rattle.std.specs.List.{flat_map}
use Rattle.std.specs.List.Sorted.{IsStrictlyIncreasing}
use Rattle.vms_world.specs.Common.{Header, Item}
use Rattle.vms_answers.specs.Common.{answer_line, NumberedAnswer}
use Rattle.vms_command.specs.Common.{refused_line}
use Rattle.vms_replay.specs.declared.waits.Wait.{Wait}
use Rattle.vms_replay.specs.declared.waits.Wait.TheVariants as waits
use Rattle.vms_replay.specs.Common.{answer_text, is_asking, AreAnswersOf, Ascend, IsBelow, asked_numbers}
use Rattle.vms_replay.specs.Common.{asking_numbers, wait_text, written}

-- numbers that rise, each after the one before it
IsStrictlyIncreasing-rest : (x : ℕ) (xs : List ℕ) → IsStrictlyIncreasing (x ∷ xs) → IsStrictlyIncreasing xs
IsStrictlyIncreasing-rest x xs rise k within =
    let next : k + 1 + 1 ≡ suc (k + 1) = omega arith in
    subst (λ i. get_or xs k 0 < get_or (x ∷ xs) i 0) next
    (subst (λ i. get_or (x ∷ xs) i 0 < get_or (x ∷ xs) (k + 1 + 1) 0) (add-one k) (rise (k + 1) (omega (
      arith,
      within,
    ))))

IsBelow-weaker : (n m : ℕ) (ms : List ℕ) → n < m → IsBelow m ms → IsBelow n ms
IsBelow-weaker n m [] less below = tt
IsBelow-weaker n m (l ∷ ls) less below =
    let first = below.0 in
    (omega (arith, less, first), IsBelow-weaker n m ls less below.1)

IsBelow-first : (x : ℕ) (xs : List ℕ) → IsStrictlyIncreasing (x ∷ xs) → Ascend xs → IsBelow x xs
IsBelow-first x [] rise ascend = tt
IsBelow-first x (y ∷ ys) rise ascend =
    let less : x < y = rise 0 (omega arith) in
    (less, IsBelow-weaker x y ys less ascend.0)

pub Ascend-increasing : (xs : List ℕ) → IsStrictlyIncreasing xs → Ascend xs
Ascend-increasing [] rise = tt
Ascend-increasing (x ∷ xs) rise =
    let rest = Ascend-increasing xs (IsStrictlyIncreasing-rest x xs rise) in
    (IsBelow-first x xs rise rest, rest)

-- some of the numbers of lines
abbrev numbers_of : List Item → List ℕ
numbers_of items = map (λ item. item.number) items

IsBelow-asking : (n : ℕ) (items : List Item) → IsBelow n (numbers_of items) → IsBelow n (asking_numbers items)
IsBelow-asking n [] below = tt
IsBelow-asking n (item ∷ items) below = by (is_asking item.act) (IsBelow-asking n items below.1)
  where
    by : (asks : Bool) → IsBelow n (asking_numbers items)
        → IsBelow n (if asks then item.number ∷ asking_numbers items else asking_numbers items)
    by true rest = (below.0, rest)
    by false rest = rest

pub Ascend-asking : (items : List Item) → Ascend (numbers_of items) → Ascend (asking_numbers items)
Ascend-asking [] ascend = tt
Ascend-asking (item ∷ items) ascend =
    by (is_asking item.act) (IsBelow-asking item.number items ascend.0) (Ascend-asking items ascend.1)
  where
    by : (asks : Bool) → IsBelow item.number (asking_numbers items) → Ascend (asking_numbers items)
        → Ascend (if asks then item.number ∷ asking_numbers items else asking_numbers items)
    by true below rest = (below, rest)
    by false below rest = rest

-- answers of lines past this one
abbrev AreBeyond : ℕ → List NumberedAnswer → Type 0
AreBeyond n [] = Unit {0}
AreBeyond n (answer ∷ answers) = (n < answer.number) × AreBeyond n answers

AreBeyond-of : (n : ℕ) (answers : List NumberedAnswer) (numbers : List ℕ) → IsBelow n numbers →
    AreAnswersOf answers numbers
    → AreBeyond n answers
AreBeyond-of n [] numbers below of = tt
AreBeyond-of n (answer ∷ answers) [] below of = absurd of
AreBeyond-of n (answer ∷ answers) (m ∷ ms) below (inl (same, of)) =
    (subst (λ k. n < k) (sym same) below.0, AreBeyond-of n answers ms below.1 of)
AreBeyond-of n (answer ∷ answers) (m ∷ ms) below (inr of) = AreBeyond-of n (answer ∷ answers) ms below.1 of

module _ (header : Header) where
  -- the line has no answer among those of later lines
  none-beyond : (n : ℕ) (answers : List NumberedAnswer) → AreBeyond n answers → answer_text header n answers ≡ []
  none-beyond n [] beyond = refl
  none-beyond n (answer ∷ answers) beyond =
      let past = beyond.0 in
      let other : nat_eq answer.number n ≡ false = grind (arith, nat_tests) in
      ap (λ (b : Bool). if b then answer_line header n answer.answer else answer_text header n answers) other
      ∙ none-beyond n answers beyond.1

  -- and later lines find theirs past the answer of an earlier one
  texts-later : (first : NumberedAnswer) (answers : List NumberedAnswer) (waiting : List Wait)
      → IsBelow first.number (asked_numbers waiting)
      → flat_map (wait_text header answers) waiting ≡ flat_map (wait_text header (first ∷ answers)) waiting
  texts-later first answers [] below = refl
  texts-later first answers (waits.Refused cause n ∷ waiting) below =
      ap (λ (rest : List ℕ). refused_line n cause ++ rest) (texts-later first answers waiting below)
  texts-later first answers (waits.Answer n ∷ waiting) below =
      let past = below.0 in
      let other : nat_eq first.number n ≡ false = grind (arith, nat_tests) in
      ap (λ (rest : List ℕ). answer_text header n answers ++ rest) (texts-later first answers waiting below.1)
      ∙ ap (λ (b : Bool). (if b then answer_line header n first.answer else answer_text header n answers)
      ++ flat_map (wait_text header (first ∷ answers)) waiting) (sym other)

  pub written-is : (waiting : List Wait) (answers : List NumberedAnswer) → Ascend (asked_numbers waiting)
      → AreAnswersOf answers (asked_numbers waiting)
      → written header waiting answers ≡ flat_map (wait_text header answers) waiting
  written-is [] answers ascend of = refl
  written-is (waits.Refused cause n ∷ waiting) answers ascend of =
      ap (λ (rest : List ℕ). refused_line n cause ++ rest) (written-is waiting answers ascend of)
  written-is (waits.Answer n ∷ waiting) [] ascend of = written-is waiting [] ascend.1 tt
  written-is (waits.Answer n ∷ waiting) (next ∷ answers) ascend (inl (same, of)) =
      let mine : nat_eq next.number n ≡ true = grind (arith, nat_tests) in
      let told : List ℕ = answer_line header n next.answer in
      let below : IsBelow next.number (asked_numbers waiting) =
      subst (λ k. IsBelow k (asked_numbers waiting)) (sym same) ascend.0 in
      ap (λ (b : Bool). if b then told ++ written header waiting answers else written header waiting (next ∷ answers))
      mine
      ∙ ap (λ (rest : List ℕ). told ++ rest)
      (written-is waiting answers ascend.1 of ∙ texts-later next answers waiting below)
      ∙ ap (λ (b : Bool). (if b then told else answer_text header n answers)
      ++ flat_map (wait_text header (next ∷ answers)) waiting) (sym mine)
  written-is (waits.Answer n ∷ waiting) (next ∷ answers) ascend (inr of) =
      let beyond = AreBeyond-of n (next ∷ answers) (asked_numbers waiting) ascend.0 of in
      let past = beyond.0 in
      let other : nat_eq next.number n ≡ false = grind (arith, nat_tests) in
      ap (λ (b : Bool). if b then answer_line header n next.answer ++ written header waiting answers
      else written header waiting (next ∷ answers)) other
      ∙ written-is waiting (next ∷ answers) ascend.1 of
      ∙ sym (ap (λ (front : List ℕ). front ++ flat_map (wait_text header (next ∷ answers)) waiting)
      (none-beyond n (next ∷ answers) beyond))
