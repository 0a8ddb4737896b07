-- The visits of the node's zones so far are written.
use Rattle.std.proofs.Common.{◌≡◌, ◌++◌, nat_eq}
use Rattle.vms_calls.proofs.Common.{zones_so_far}
use Rattle.vms_rating_lines.specs.Lines.{step_lines}
use Rattle.vms_rating_lines.specs.ToldSteps.{visits_told}
use Rattle.vms_rating_lines.proofs.ratings.write_node.Given as goal

abbrev pub invariant-loop-zone : goal.invariant-loop-zone
invariant-loop-zone l = l.out.items ≡ l.initial.out.items
    ++ step_lines l.caller (visits_told l.pages l.found (λ m. nat_eq m 0) (zones_so_far l.layout l.number l.zone))
