-- No amount of a table of zeros counts.
use Rattle.vms_cells.proofs.Counts.{AreCounted-zeros}
use Rattle.vms_cells.proofs.tallies.Tally.zeros.Goals as goal

pub invariant_of-result : goal.invariant_of-result
invariant_of-result c =
    rw (c.in_ok-amounts.ensures, c.in_ok-counts.ensures) (AreCounted-zeros c.args.rows c.args.width c.requires)
