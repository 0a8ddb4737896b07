use Rattle.std.proofs.Common.{◌≡◌, ◌++◌, map, take}
use Rattle.vms_history.specs.Common.{word_of}
use Rattle.vms_rows.proofs.opening.push_signed_row.Given as goal

abbrev pub invariant-loop-number : goal.invariant-loop-number
invariant-loop-number l = l.words.items ≡ l.fn.words.items ++ map word_of (take l.number-index l.numbers)
