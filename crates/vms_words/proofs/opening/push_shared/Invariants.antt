use Rattle.std.proofs.Common.{◌≡◌}
use Rattle.vms_words.specs.Common.{first_words}
use Rattle.vms_words.proofs.opening.push_shared.Given as goal

-- the words so far
abbrev pub invariant-loop-place : goal.invariant-loop-place
invariant-loop-place l = l.words.items ≡ first_words l.state l.blocks l.place
