-- How shared words show a tree of groups, in rows that stand apart.
use Rattle.std.specs.Prelude.{◌≡◌, ℕ, zero, suc, ◌+◌, ◌*◌, ◌/◌, ◌%◌, nat_lt, if◌then◌else◌, List, [], ◌++◌, map}
use Rattle.std.specs.Prelude.{replicate, Option, ℤ, refl}
use Rattle.std.specs.List.{range_with_len}
use Rattle.vms_history.specs.Common.{CpuId, word_of, signed_of_word, cell, Begins, Ends}
use Rattle.vms_group_core.specs.declared.states.GroupState.{GroupState}
use Rattle.vms_group_core.specs.declared.steps.GroupFacts.{GroupFacts}
use Rattle.vms_group_core.specs.declared.steps.GroupStep.{GroupStep}
use Rattle.vms_group_core.specs.declared.steps.GroupStep.TheVariants.{TakeP, TakeU, LoadV, Split, Join}
use Rattle.vms_group_core.specs.declared.trees.Tree.{Tree}
use Rattle.vms_group_core.specs.Common.{IsBase, group_count, value_at, up_at, pending_at, role}
use Rattle.vms_seats.specs.Common.{Shared}

-- so many words that stay 0 stand after the words of a row: wherever the words begin, no line of 64 bytes has words of
-- two rows then
abbrev pub gap : ℕ
gap = 7

-- how many words a row takes: one for each group, and the gap
abbrev pub row_width : Tree → ℕ
row_width tree = group_count tree + gap

-- the number that stands for a group in a row: in the first its value, in the second what is pending from its children,
-- and then, in a row for each CPU, what is pending from the CPU
abbrev pub number_in : Tree → GroupState → ℕ → ℕ → ℤ
number_in tree s zero g = value_at s g
number_in tree s (suc zero) g = up_at s g
number_in tree s (suc (suc c)) g = pending_at tree s c g

-- the word at a place of a row
abbrev pub word_in : Tree → GroupState → ℕ → ℕ → ℕ
word_in tree s row place = if nat_lt place (group_count tree) then word_of (number_in tree s row place) else 0

-- the words of the first rows
unfoldable pub first_rows : Tree → GroupState → ℕ → List ℕ
first_rows tree s rows =
    map (λ i. word_in tree s (i / row_width tree) (i % row_width tree)) (range_with_len 0 (rows * row_width tree))

-- all words: two rows, and one for each CPU
unfoldable pub shown : GroupFacts → GroupState → List ℕ
shown facts s = first_rows facts.tree s (2 + facts.tree.cpus)

-- the words of one row
abbrev pub row_of : List ℤ → List ℕ
row_of numbers = map word_of numbers ++ replicate gap 0

-- where the word stands that is pending for a group from its children
abbrev pub up_place : Tree → ℕ → ℕ
up_place tree g = row_width tree + g

-- where the word stands that is pending for a group from a CPU
abbrev pub pending_place : Tree → ℕ → ℕ → ℕ
pending_place tree c g = 2 * row_width tree + cell (row_width tree) c g

-- the line of 64 bytes that has a word, where word 0 begins a line
abbrev pub line_of : ℕ → ℕ
line_of word = word / 8

-- how many words there are
abbrev pub word_count : Tree → ℕ
word_count tree = 2 * row_width tree + tree.cpus * row_width tree

-- a load and a take tell the number found
abbrev pub told : GroupStep → ℕ → GroupStep
told (TakeP c g v) found = TakeP c g (signed_of_word found)
told (TakeU g v) found = TakeU g (signed_of_word found)
told (LoadV g v) found = LoadV g (signed_of_word found)
told step found = step

pub begins_it : (q : ℕ) (who : Option CpuId) → role (Split q who) ≡ Begins q who
begins_it q who = refl

pub ends_it : (q : ℕ) → role (Join q) ≡ Ends q
ends_it q = refl

-- the facts of no tree
abbrev pub no_facts : GroupFacts
no_facts = record {
  tree = record { parents = []; cpus = 0 };
  base = record { value = []; up = []; pending = [] };
}

-- the words were made for these facts
pub record AreMadeFor (facts : GroupFacts) (words : Shared GroupFacts) : Type 0 where
  pub base : IsBase facts
  pub same : words.facts ≡ facts
  pub count : words.table.words ≡ word_count facts.tree
