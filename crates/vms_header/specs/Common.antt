-- The definitions that other crates and this one's proofs cite, passed on from one place. Declares nothing.
pub use Rattle.vms_header.specs.Drafts.{Base, Draft, Section, Share, Zone, bases_of, first_draft, header_of}
pub use Rattle.vms_header.specs.Drafts.{managed_pages, most_cpus, names_of, nodes_of, positions_of, section_index}
pub use Rattle.vms_header.specs.Drafts.{shape_of, size_under, sizes_under, with_zone}
pub use Rattle.vms_header.specs.Drafts.Section.{AtBases, AtCounters, AtCpus, AtItems, AtWatermarks, AtZones}
pub use Rattle.vms_header.specs.Sections.{after_zones, any_number, any_zone_row, base_counter, base_row, class_field}
pub use Rattle.vms_header.specs.Sections.{counter_row, draft_with_item, header_number, is_item_name, item_row}
pub use Rattle.vms_header.specs.Sections.{kind_field, name_field, rising, unit_field, unmarked_zone_row, value_field}
pub use Rattle.vms_header.specs.Sections.{value_in_range, watermarks_row, with_base, with_counter, with_new_zone}
pub use Rattle.vms_header.specs.Sections.{zone_row}
pub use Rattle.vms_header.specs.Values.{base_words, item_from_words, read_item, read_zone, share_words}
pub use Rattle.vms_header.specs.Values.{unmarked_zone_words, zone_name, zone_size}
pub use Rattle.vms_header.specs.Stages.{Fault, HeadStep, ReadsHeader, Stage, are_words, cpus_line, draft_line, go_row}
pub use Rattle.vms_header.specs.Stages.{going, head_line, header_from, is_due, missing, on_step, read_header}
pub use Rattle.vms_header.specs.Stages.{stage_line, version_line, with_cpus}
pub use Rattle.vms_header.specs.Stages.HeadStep.{Ends, Goes}
pub use Rattle.vms_header.specs.Stages.Stage.{Drafting, Opening, Versioned}
pub use Rattle.vms_header.specs.DraftFacts.{IsDraft, IsHeadStep, IsNamedBase, IsShare, IsSized, IsStage}
pub use Rattle.vms_header.specs.Readers.{IsSameRead, draft_of, stage_of, step_of}
pub use Rattle.vms_header.specs.Spelling.{base_line_words, base_lines_from, counter_line_words, cpus_words}
pub use Rattle.vms_header.specs.Spelling.{header_words, item_words, spelled_header, version_words, zone_line_words}
pub use Rattle.vms_header.specs.Laws.{HeadersReadBack, IsSettled, IsWritable}
pub use Rattle.vms_header.specs.Steps.{StepsTo, at_line}
