-- For other crates too: the lane of a line may be kept.
use Rattle.std.proofs.Common.{arith}
use Rattle.vms_base.specs.declared.headers.Header.{Header}
use Rattle.vms_base.specs.Common.{IsHeader}
use Rattle.vms_text.specs.declared.acts.Lane.{Lane as LaneOf}
use Rattle.vms_text.specs.declared.acts.Lane.TheVariants.{Cpu, Control}
use Rattle.vms_text.specs.declared.acts.Line.{Line}
use Rattle.vms_text.specs.declared.acts.Line.TheVariants.{Blank, Lane, Boundary}
use Rattle.vms_text.specs.Common.{IsKeepableLane}
use Rattle.vms_line.specs.Common.{IsLaneOf, IsLineOf}
use Rattle.vms_script.specs.Common.{MayKeep}

-- a lane of a header: it has at most 128 CPUs
pub keepable : (header : Header) (lane : LaneOf) → IsHeader header → IsLaneOf header lane → IsKeepableLane lane
keepable header (Cpu cpu) is of = omega (arith, is.is_layout.cpus_most, of)
keepable header Control is of = tt

-- a line of a header
pub may_keep : (header : Header) (line : Line) → IsHeader header → IsLineOf header line → MayKeep line
may_keep header Blank is of = tt
may_keep header (Lane lane act) is of = keepable header lane is of.0
may_keep header (Boundary boundary) is of = tt
