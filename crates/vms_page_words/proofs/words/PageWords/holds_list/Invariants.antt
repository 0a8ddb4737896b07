use Rattle.std.proofs.Common.{◌≡◌, ℕ, ◌+◌, ◌<◌, get_or, pos}
use Rattle.vms_page_words.proofs.words.PageWords.holds_list.Given as goal

-- the entries so far are the same
abbrev pub invariant-loop-n : goal.invariant-loop-n
invariant-loop-n l = (i : ℕ) → i < l.n → get_or l.self.diff (l.start + i) (pos 0) ≡ get_or l.list.values i (pos 0)
