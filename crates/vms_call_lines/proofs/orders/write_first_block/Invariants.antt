use Rattle.std.proofs.Common.{◌-◌, drop}
use Rattle.std.specs.Prelude.{Option}
use Rattle.vms_calls.specs.Common.{CpuId, area_names, areas_from, areas_named, areas_of}
use Rattle.vms_plans.specs.Common.{blocks_plan}
use Rattle.vms_call_lines.specs.Lines.{BeginsWriting}
use Rattle.vms_call_lines.proofs.orders.write_first_block.Given as goal

-- the areas that are left are to be looked at
abbrev pub invariant-loop-number : goal.invariant-loop-number
invariant-loop-number l = (who : Option CpuId) → BeginsWriting who
    (blocks_plan l.header.layout l.zone (areas_from l.order (areas_of l.header.items))) l.pages l.caller
    l.initial.out.items l.out.items
    (blocks_plan l.header.layout l.zone (areas_named l.header.items l.number (drop (l.number - 1) area_names))) l.pages
