use Rattle.std.proofs.Common.{◌≡◌}
use Rattle.vms_rows.specs.Rows.{rows_of}
use Rattle.vms_pcpu.proofs.OpeningWords.{free_pair}
use Rattle.vms_pcpu.proofs.tables.push_pairs.Given as goal

-- the rows so far
abbrev pub invariant-loop-count : goal.invariant-loop-count
invariant-loop-count l = l.words.items ≡ rows_of 2 l.count-index (λ j k. free_pair l.counts j k)
