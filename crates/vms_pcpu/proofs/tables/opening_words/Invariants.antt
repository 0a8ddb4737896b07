use Rattle.std.proofs.Common.{◌≡◌, ◌++◌}
use Rattle.vms_pcpu_core.specs.Common.{counters_of}
use Rattle.vms_rows.specs.Rows.{rows_of}
use Rattle.vms_pcpu.proofs.OpeningWords.{free_pair, local_word}
use Rattle.vms_pcpu.proofs.tables.opening_words.Given as goal

-- the rows of counters, and those of the first CPUs
abbrev pub invariant-loop-cpu : goal.invariant-loop-cpu
invariant-loop-cpu l = l.words.items
    ≡ rows_of 2 (counters_of l.facts.base) (λ j k. free_pair l.facts.base.count j k)
    ++ rows_of (counters_of l.facts.base) l.cpu (λ c j. local_word l.facts c j)
