use Rattle.std.proofs.Common.{◌≡◌, ℕ, ◌<◌, length, get_or}
use Rattle.vms_page_words.proofs.opening.widened.Given as goal

-- the numbers so far are the same
abbrev pub invariant-loop-at : goal.invariant-loop-at
invariant-loop-at l = record {
  same_length : length l.row ≡ length l.numbers;
  done : (n : ℕ) → n < l.at → get_or l.row n 0 ≡ get_or l.numbers n 0;
}
