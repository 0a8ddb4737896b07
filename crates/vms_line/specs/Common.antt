-- The definitions that other crates and this one's proofs cite, passed on from one place. Declares nothing.
pub use Rattle.vms_line.specs.Fields.{amount_field, counter_field, cpu_field, event_field, in_pages, item_field}
pub use Rattle.vms_line.specs.Fields.{known_cpu, known_place, limit_field, mark_named, node_field, node_value}
pub use Rattle.vms_line.specs.Fields.{number_field, number_up_to, page_counter, pcpu_field, place_field, system_field}
pub use Rattle.vms_line.specs.Fields.{system_value, within_limit, zone_field}
pub use Rattle.vms_line.specs.Forms.{Amount, Change, Count, Counter, Event, Fields, Limited, Marked, Name, Node, Number}
pub use Rattle.vms_line.specs.Forms.{OneCpu, Paged, Turn, Value, act_in_words, amount_fields, change_fields}
pub use Rattle.vms_line.specs.Forms.{count_fields, counter_fields, event_fields, form_of, has_lane, has_zone_up_to}
pub use Rattle.vms_line.specs.Forms.{index_under, limited_fields, marked_fields, name_fields, node_fields}
pub use Rattle.vms_line.specs.Forms.{number_fields, one_cpu_fields, paged_fields, read_fields, read_verb, turn_fields}
pub use Rattle.vms_line.specs.Forms.{value_fields, verb_named, verbs}
pub use Rattle.vms_line.specs.Body.{bare_boundary, boundary_line, boundary_of, control_line, cpu_line, is_cpu_word}
pub use Rattle.vms_line.specs.Body.{lane_number, of_cpu, of_lane, read_line, read_words, report_named}
pub use Rattle.vms_line.specs.Spelling.{act_words, boundary_words, event_word, lane_word, line_words, mark_word}
pub use Rattle.vms_line.specs.Spelling.{node_number_words, pcpu_word, report_word, spelled_amount, spelled_line}
pub use Rattle.vms_line.specs.Spelling.{system_word}
pub use Rattle.vms_line.specs.Laws.{IsActOf, IsBoundaryOf, IsDeclared, IsKnownValue, IsLaneOf, IsLineOf, IsOfControl}
pub use Rattle.vms_line.specs.Laws.{IsOfCpu, IsSpelled, LinesHaveOneSpelling, LinesReadBack, ReadsBack}
