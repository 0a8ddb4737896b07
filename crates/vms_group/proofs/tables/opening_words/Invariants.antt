use Rattle.std.proofs.Common.{◌≡◌, ◌+◌}
use Rattle.vms_group.specs.SharedWords.{first_rows}
use Rattle.vms_group.proofs.tables.opening_words.Given as goal

abbrev pub invariant-loop-cpu : goal.invariant-loop-cpu
invariant-loop-cpu l = l.words.items ≡ first_rows l.facts.tree l.facts.base (2 + l.cpu)
