-- Rows of words that stand apart.
use Rattle.std.specs.Prelude.{ℕ, ◌+◌, ◌*◌, ◌/◌, ◌%◌, nat_lt, if◌then◌else◌, List, map}
use Rattle.std.specs.List.{range_with_len}
use Rattle.vms_history.specs.Common.{cell}

-- so many words that stay 0 stand after the words of a row: wherever the words begin, no line of 64 bytes has words of
-- two rows then
abbrev pub gap : ℕ
gap = 7

-- how many words a row takes that has `count` words and the gap
abbrev pub row_width : ℕ → ℕ
row_width count = count + gap

-- where word k of row c stands
abbrev pub row_place : ℕ → ℕ → ℕ → ℕ
row_place count c k = cell (row_width count) c k

-- the word at a place of rows, where `word c k` is word k of row c
abbrev pub word_in : ℕ → (ℕ → ℕ → ℕ) → ℕ → ℕ
word_in count word i =
    if nat_lt (i % row_width count) count then word (i / row_width count) (i % row_width count) else 0

-- the words of so many rows
unfoldable pub rows_of : ℕ → ℕ → (ℕ → ℕ → ℕ) → List ℕ
rows_of count rows word = map (word_in count word) (range_with_len 0 (rows * row_width count))

-- the line of 64 bytes that has a word, where word 0 begins a line
abbrev pub line_of : ℕ → ℕ
line_of word = word / 8
