use Rattle.std.proofs.Common.{◌≡◌, take}
use Rattle.vms_header.specs.Common.{names_of}
use Rattle.vms_header.proofs.layouts.names_of.Given as goal

abbrev pub invariant-loop-zone : goal.invariant-loop-zone
invariant-loop-zone l = l.names.items ≡ names_of (take l.zone-index l.zones)
