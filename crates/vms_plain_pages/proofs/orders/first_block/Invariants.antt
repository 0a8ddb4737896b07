use Rattle.std.proofs.Common.{◌≡◌, ◌-◌, drop}
use Rattle.vms_calls.specs.Common.{area_names, areas_from, areas_named, areas_of}
use Rattle.vms_plain_pages.specs.Common.{block_found}
use Rattle.vms_plain_pages.proofs.orders.first_block.Given as goal

-- the areas that are left have the first block
abbrev pub invariant-loop-number : goal.invariant-loop-number
invariant-loop-number l =
    block_found l.header.layout l.pages l.zone.number (areas_from l.order (areas_of l.header.items))
    ≡ block_found l.header.layout l.pages l.zone.number
    (areas_named l.header.items l.number (drop (l.number - 1) area_names))
