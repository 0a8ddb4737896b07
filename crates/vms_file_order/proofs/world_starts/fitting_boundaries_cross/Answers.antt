-- A boundary line that counts, boundary by boundary.
use Rattle.vms_file_order.proofs.BoundaryStarts.{IsStartOf-crossed, MayCross-allowed}
use Rattle.vms_file_order.proofs.world_starts.fitting_boundaries_cross.Goals as goal

pub returns : goal.returns
returns g c = record {
  may = λ header w boundary start states known allowed. MayCross-allowed header start w states boundary known allowed;
  start = λ header w next boundary start gives is known allowed crosses. IsStartOf-crossed header start
      g.R.ThresholdRules.normal gives w next is boundary known allowed crosses;
}
