-- The plain sums of lines.
use Rattle.std.specs.Prelude.{ℕ, ◌+◌, nat_eq, Bool, false, ℤ, pos, ◌+ℤ◌, List, [], ◌∷◌, All, if◌then◌else◌, Option}
use Rattle.std.specs.Prelude.{Some, None, map}
use Rattle.std.specs.List.Sorted.{IsStrictlyIncreasing}
use Rattle.vms_world.specs.Common.{Header, IsLineOf, Segment, Phase, Between, line_of, spent_on_event, Act, Cnt, Lim}
use Rattle.vms_world.specs.Common.{Item}
use Rattle.vms_answers.specs.declared.answers.Answer.{Answer}
use Rattle.vms_answers.specs.declared.answers.Answer.TheVariants.{Limited}
use Rattle.vms_answers.specs.Common.{NumberedAnswer}

-- each of these items keeps a line of the header
abbrev pub AreLinesOf : Header → List Item → Type 0
AreLinesOf header items = All (λ item. IsLineOf header (line_of item)) items

-- how often these lines count event k together
abbrev pub counts_by : ℕ → List Item → ℕ
counts_by k [] = 0
counts_by k (item ∷ items) = spent_on_event k item.act + counts_by k items

-- how often the lines of these phases count it together
abbrev pub counts_by_all : ℕ → List (List Item) → ℕ
counts_by_all k [] = 0
counts_by_all k (items ∷ phases) = counts_by k items + counts_by_all k phases

-- whether an answer is that of a limited addition that was made
abbrev pub says_made : Option Answer → Bool
says_made (Some (Limited made)) = made
says_made _ = false

-- what the act of a line adds to percpu counter j, where this is its answer: a limited addition adds where it was made
abbrev pub amount_added : ℕ → Act → Option Answer → ℤ
amount_added j (Cnt counter amount) answer = if nat_eq counter.number j then amount else pos 0
amount_added j (Lim counter limit amount) answer =
    if nat_eq counter.number j then (if says_made answer then amount else pos 0) else pos 0
amount_added j _ answer = pos 0

-- the answer of the line of a number, if it has one
abbrev pub answer_at : ℕ → List NumberedAnswer → Option Answer
answer_at n [] = None
answer_at n (first ∷ answers) = if nat_eq first.number n then Some first.answer else answer_at n answers

-- what these lines add to it together, by these answers
abbrev pub adds_by : ℕ → List NumberedAnswer → List Item → ℤ
adds_by j answers [] = pos 0
adds_by j answers (item ∷ items) = amount_added j item.act (answer_at item.number answers) +ℤ adds_by j answers items

-- what the lines of these phases add to it together, each phase by its own answers
abbrev pub adds_by_all : ℕ → List (List NumberedAnswer) → List (List Item) → ℤ
adds_by_all j (answers ∷ more) (items ∷ phases) = adds_by j answers items +ℤ adds_by_all j more phases
adds_by_all j _ _ = pos 0

-- each of these lines has a higher number than those before it
abbrev pub AreNumbered : List Item → Type 0
AreNumbered items = IsStrictlyIncreasing (map (λ item. item.number) items)

-- the phases among these segments
abbrev pub phases_among : List Segment → List (List Item)
phases_among [] = []
phases_among (Phase items ∷ segments) = items ∷ phases_among segments
phases_among (Between number boundary ∷ segments) = phases_among segments
