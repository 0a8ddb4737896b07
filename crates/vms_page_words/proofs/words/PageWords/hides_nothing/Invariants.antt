use Rattle.std.proofs.Common.{◌≡◌, ℕ, ◌<◌, pos}
use Rattle.vms_core.specs.Common.{diff_at}
use Rattle.vms_page_words.specs.Words.{state_of}
use Rattle.vms_page_words.proofs.words.PageWords.hides_nothing.Given as goal

-- the differentials so far are 0
abbrev pub invariant-loop-number : goal.invariant-loop-number
invariant-loop-number l = (k : ℕ) → k < l.number → diff_at (state_of l.self) l.cpu.number k ≡ pos 0
