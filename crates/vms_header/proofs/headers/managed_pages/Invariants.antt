use Rattle.std.proofs.Common.{◌≡◌, ◌≤◌, ◌*◌, ◌^◌, take}
use Rattle.vms_header.specs.Common.{managed_pages}
use Rattle.vms_header.proofs.headers.managed_pages.Given as goal

abbrev pub invariant-loop-zone : goal.invariant-loop-zone
invariant-loop-zone l = (l.total ≡ managed_pages (take l.zone-index l.zones)) × (l.total ≤ 2 ^ 40 * l.zone-index)
