-- What is true of every stage of a header: its draft is in its ranges.
use Rattle.std.specs.Prelude.{◌≡◌, ◌≢◌, ◌<◌, ◌≤◌, ◌^◌, unsigned_abs, true, false, [], length, map, All, AllPairs}
use Rattle.std.specs.Prelude.{IfSome}
use Rattle.std.specs.List.Sorted.{IsStrictlyIncreasing}
use Rattle.vms_base.specs.declared.kinds.ZoneSize.{ZoneSize}
use Rattle.vms_base.specs.Common.{IsValidDecl, IsValidItem, class_names, is_of_node, counter_count, position_of}
use Rattle.vms_base.specs.Common.{rank_of, IsValidSize}
use Rattle.vms_header.specs.Drafts.{Base, Draft, Share, most_cpus, section_index, shape_of}
use Rattle.vms_header.specs.Stages.{Stage, HeadStep}
use Rattle.vms_header.specs.Stages.Stage.{Opening, Versioned, Drafting}
use Rattle.vms_header.specs.Stages.HeadStep.{Goes, Ends}
use Rattle.vms_text.specs.Common.{declared_items}

-- the fields of a `watermarks` line
pub record IsShare (share : Share) : Type 0 where
  pub kbytes_most : share.kbytes ≤ 2 ^ 40
  pub scale_least : 1 ≤ share.scale
  pub scale_most : share.scale ≤ 3000

-- a size as a zone line can say it
pub record IsSized (size : ZoneSize) : Type 0 where
  pub valid : IsValidSize size
  pub high_most : size.high ≤ 2 ^ 40

-- a base value of a counter that has a name
pub record IsNamedBase (draft : Draft) (base : Base) : Type 0 where
  pub known : base.counter < counter_count (shape_of draft)
  pub named : position_of (shape_of draft) base.counter
      < length (class_names (is_of_node (shape_of draft) base.counter) draft.items)
  pub most : unsigned_abs base.value ≤ 2 ^ 48

-- a draft that lines can make: it has no base before the first base line is due
pub record IsDraft (draft : Draft) : Type 0 where
  pub cpus_least : 1 ≤ draft.cpus
  pub cpus_most : draft.cpus ≤ most_cpus draft.wide
  pub share_valid : IfSome draft.share IsShare
  pub zones_most : length draft.zones ≤ 16
  pub zones_ascend : IsStrictlyIncreasing (map (λ zone. rank_of zone.name) draft.zones)
  pub zones_nodes : All (λ zone. zone.name.node ≤ 15) draft.zones
  pub zones_sized : All (λ zone. IsSized zone.size) draft.zones
  pub items_wide : draft.wide ≡ false → draft.items ≡ []
  pub zone_items_most : length (declared_items false draft.items) ≤ 8
  pub node_items_most : length (declared_items true draft.items) ≤ 8
  pub items_valid : All IsValidItem draft.items
  pub items_differ : AllPairs ◌≢◌ (map (λ item. item.name) draft.items)
  pub bases_late : section_index draft.section ≤ 3 → draft.bases ≡ []
  pub bases_valid : All (IsNamedBase draft) draft.bases
  pub counters_most : length draft.counters ≤ 16
  pub counters_valid : All IsValidDecl draft.counters
  pub counters_differ : AllPairs ◌≢◌ (map (λ decl. decl.name) draft.counters)

abbrev pub IsStage : Stage → Type 0
IsStage (Drafting draft) = IsDraft draft
IsStage Opening = Unit {0}
IsStage (Versioned wide) = Unit {0}

-- what a line may make: `go` comes after a zone line
abbrev pub IsHeadStep : HeadStep → Type 0
IsHeadStep (Goes stage) = IsStage stage
IsHeadStep (Ends draft) = IsDraft draft × (0 < length draft.zones)
