use Rattle.std.proofs.Common.{◌≡◌, reverse, take}
use Rattle.vms_header.specs.Common.{bases_of}
use Rattle.vms_header.proofs.headers.bases_of.Given as goal

abbrev pub invariant-loop-base : goal.invariant-loop-base
invariant-loop-base l = l.values ≡ bases_of l.count (reverse (take l.base-index l.bases))
