-- A zone more adds its pages, and past the last zone they are the whole.
use Rattle.std.proofs.Common.{◌<◌, length, arith, ◌∙◌}
use Rattle.vms_base.specs.declared.kinds.ZoneKind.TheVariants.{Dma}
use Rattle.vms_base.specs.declared.kinds.ZoneName.{ZoneName}
use Rattle.vms_base.specs.declared.kinds.ZoneSize.{ZoneSize}
use Rattle.vms_base.specs.Common.{zone_index, IsValidSize}
use Rattle.std.proofs.lemmas.List.Elements.{All-get_or}
use Rattle.vms_calc.proofs.Counted.{counted}
use Rattle.vms_calc.proofs.Sums.{sum_by-take-zip_more, sum_by-take-zip_all}
use Rattle.vms_calc.proofs.reserves.pages_between.Goals as goal

abbrev no_zone : ZoneName
no_zone = record { node = 0; kind = Dma }

abbrev no_size : ZoneSize
no_size = record { managed = 0; min = 0; low = 0; high = 0 }

pub loop-index-preserved : goal.loop-index-preserved
loop-index-preserved c =
    let in_zones : c.loop-index.index < length c.zones-zones.result.now = omega arith in
    let in_sizes : c.loop-index.index < length c.args.sizes.now = omega arith in
    record {
      value = omega (
        arith,
        sum_by-take-zip_more (counted c.args.above.node (zone_index c.args.above.kind) c.args.highest)
            c.zones-zones.result.now c.args.sizes.now c.loop-index.index no_zone no_size in_zones in_sizes,
      );
      none = λ below. omega (arith, c.loop-index.invariant.none below, c.pages_above-pages.ensures.none below);
      bound = let valid = All-get_or IsValidSize _ _ no_size in_sizes c.requires in omega arith;
    }

pub returns-clause-value : goal.returns-clause-value
returns-clause-value c =
    rw (← c.zones-zones.ensures.value)
    (c.loop-index.invariant.value ∙ sum_by-take-zip_all _ _ _ c.loop-index.index (omega arith))
