use Rattle.std.proofs.Common.{◌≡◌, ◌*◌, ◌≤◌, ◌^◌, take}
use Rattle.std.specs.Prelude.{sum_by, zip}
use Rattle.vms_base.specs.Common.{zone_index}
use Rattle.vms_calc.proofs.Counted.{counted}
use Rattle.vms_calc.proofs.reserves.pages_between.Given as goal

-- the pages of the zones so far, and no zone has more than 2^40
abbrev pub invariant-loop-index : goal.invariant-loop-index
invariant-loop-index l = record {
  value : l.pages
      ≡ sum_by (counted l.above.node (zone_index l.above.kind) l.highest) (take l.index (zip l.zones l.sizes));
  none : l.highest ≤ zone_index l.above.kind → l.pages ≡ 0;
  bound : l.pages ≤ l.index * 2 ^ 40;
}
