-- The names of this crate and of those below it that the crates above cite, passed on from one place.
pub use Rattle.vms_base.specs.declared.groups.Diffs.{Diffs}
pub use Rattle.vms_base.specs.declared.headers.Header.{Header}
pub use Rattle.vms_base.specs.declared.headers.ItemDecl.{ItemDecl}
pub use Rattle.vms_base.specs.declared.ids.CounterId.{CounterId}
pub use Rattle.vms_base.specs.declared.ids.CpuId.{CpuId}
pub use Rattle.vms_base.specs.declared.ids.EventId.{EventId}
pub use Rattle.vms_base.specs.declared.ids.GroupId.{GroupId}
pub use Rattle.vms_base.specs.declared.ids.ItemId.{ItemId}
pub use Rattle.vms_base.specs.declared.ids.PcpuId.{PcpuId}
pub use Rattle.vms_base.specs.declared.ids.PlaceId.{PlaceId}
pub use Rattle.vms_base.specs.declared.kinds.CpuState.{CpuState}
pub use Rattle.vms_base.specs.declared.kinds.CpuState.TheVariants.{Absent, Dead, Online}
pub use Rattle.vms_base.specs.declared.kinds.Mode.{Mode}
pub use Rattle.vms_base.specs.declared.kinds.Mode.TheVariants.{Dec, Inc, Mod}
pub use Rattle.vms_base.specs.declared.kinds.WaterMark.{WaterMark}
pub use Rattle.vms_base.specs.declared.kinds.WaterMark.TheVariants.{High}
pub use Rattle.vms_base.specs.declared.kinds.ZoneKind.TheVariants.{Dma, Normal}
pub use Rattle.vms_base.specs.declared.kinds.ZoneName.{ZoneName}
pub use Rattle.vms_base.specs.declared.kinds.ZoneSize.{ZoneSize}
pub use Rattle.vms_base.specs.Numbers.{signed_of_word, word_of}
pub use Rattle.vms_base.specs.Groups.{AreBytes, IsByte}
pub use Rattle.vms_base.specs.Places.{IsCounter, IsCpu, IsGroup, IsItem, IsLayout, IsPlace, IsZone, Shape, cell}
pub use Rattle.vms_base.specs.Places.{counter_at, counter_count, first_of_group, group_count, group_of, item_count}
pub use Rattle.vms_base.specs.Places.{item_of, node_of_zone, place_count, place_of, zone_index}
pub use Rattle.vms_base.specs.Cpus.{HasOnline, MayOwnCpu, is_online, is_present, online_from, present_from, state_at}
pub use Rattle.vms_base.specs.Volumes.{most_volume}
pub use Rattle.vms_base.specs.Sizes.{IsValidSize, gap_of, size_at}
pub use Rattle.vms_base.specs.Names.{zone_items}
pub use Rattle.vms_base.specs.Headers.{IsHeader}
pub use Rattle.vms_base.specs.Areas.{Area, area_at, area_names, areas_from, areas_named, areas_of}
pub use Rattle.vms_base.specs.Thresholds.{GivesThresholds, most_threshold}
pub use Rattle.vms_base.specs.Marks.{Covers, cover_mark_of, linux_mark_of}
pub use Rattle.vms_base.specs.Watermarks.{limit_of}
pub use Rattle.vms_history.specs.Sums.{count_below, largest_below, sum_below}
pub use Rattle.vms_history.specs.Events.{Extends, NewestOwn, after, own, own_at, total}
pub use Rattle.vms_history.specs.Passes.{IsFree, Role, begun, begun_after, begun_in, lives, lives_after, lives_in}
pub use Rattle.vms_history.specs.Passes.{owner, owner_after, owner_in}
pub use Rattle.vms_history.specs.Passes.Role.{Begins, Ends, Works}
pub use Rattle.vms_history.specs.Legal.{Acts, IsComplete, IsLegal, IsQuiet, Machine, MadeAt, state_after}
pub use Rattle.vms_history.specs.PassSteps.{GoesOnWithout, HasMade, MayBegin, MayMake}
pub use Rattle.vms_history.specs.InRow.{ByState, GoesOnTo, IsByState, LeadsOn}
