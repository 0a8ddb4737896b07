use Rattle.std.proofs.Common.{◌≡◌}
use Rattle.vms_calls.specs.Common.{areas_from, areas_of}
use Rattle.vms_cursors.proofs.AreasLeft.{areas_left}
use Rattle.vms_cursors.proofs.blocks.first_blocks.Given as goal

-- no area so far is one of the header
abbrev pub invariant-loop-order : goal.invariant-loop-order
invariant-loop-order l = areas_from l.from (areas_of l.header.items) ≡ areas_left l.header.items l.order
