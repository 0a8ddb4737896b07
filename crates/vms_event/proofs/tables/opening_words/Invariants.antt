use Rattle.std.proofs.Common.{◌≡◌}
use Rattle.vms_event.proofs.OpeningWords.{rows_before}
use Rattle.vms_event.proofs.tables.opening_words.Given as goal

-- the rows so far
abbrev pub invariant-loop-cpu : goal.invariant-loop-cpu
invariant-loop-cpu l = l.words.items ≡ rows_before l.base l.cpu
