use Rattle.std.proofs.Common.{◌≡◌, ◌+◌}
use Rattle.vms_calls.specs.Common.{cell}
use Rattle.vms_words.specs.Common.{first_words}
use Rattle.vms_words.proofs.opening.push_row.Given as goal

-- the words so far
abbrev pub invariant-loop-place : goal.invariant-loop-place
invariant-loop-place l =
    l.words.items ≡ first_words l.state l.blocks (l.blocks.rows + cell l.blocks.width l.cpu.number l.place)
