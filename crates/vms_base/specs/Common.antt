-- The definitions that other crates and this one's proofs cite, passed on from one place. Declares nothing.
pub use Rattle.vms_base.specs.Numbers.{bits_of}
pub use Rattle.vms_base.specs.Groups.{AreBytes, IsByte}
pub use Rattle.vms_base.specs.Places.{HasDoubled, IsCounter, IsCpu, IsGroup, IsItem, IsLayout, IsNode, IsPlace}
pub use Rattle.vms_base.specs.Places.{IsRefused, IsWidth, IsZone, LaysOut, Shape, cell, counter_at, counter_count}
pub use Rattle.vms_base.specs.Places.{first_of_group, group_count, group_of, item_of, node_at, node_place, place_count}
pub use Rattle.vms_base.specs.Places.{place_of, position_of, rank_of, zone_at, zone_index, zone_place}
pub use Rattle.vms_base.specs.Cpus.{is_online}
pub use Rattle.vms_base.specs.Volumes.{most_volume}
pub use Rattle.vms_base.specs.Sizes.{IsValidSize, gap_of, watermark_of}
pub use Rattle.vms_base.specs.Names.{event_names, is_letter, is_name, is_name_byte, kind_names, node_items, zone_items}
pub use Rattle.vms_base.specs.Headers.{IsHeader, IsNamed, IsValidDecl, IsValidItem, class_names, declared_names}
pub use Rattle.vms_base.specs.Headers.{is_of_node}
pub use Rattle.vms_base.specs.Areas.{Area, area_at, area_names, areas_from, areas_named}
pub use Rattle.vms_base.specs.Thresholds.{GivesThresholds, most_threshold, normal_threshold_of, pressure_threshold_of}
pub use Rattle.vms_base.specs.Marks.{Covers, cover_mark_of, linux_mark_of}
pub use Rattle.vms_base.specs.Watermarks.{limit_of, managed_between, reserve_of, reserve_ratio, zone_marks_of}
