use Rattle.std.proofs.Common.{◌≡◌, map, take}
use Rattle.vms_header.specs.Common.{managed_pages, size_under}
use Rattle.vms_header.proofs.headers.sizes_under.Given as goal

abbrev pub invariant-loop-zone : goal.invariant-loop-zone
invariant-loop-zone l =
    l.sizes.items ≡ map (λ zone. size_under l.share zone.size (managed_pages l.zones)) (take l.zone-index l.zones)
