-- The definitions that other crates and this one's proofs cite, passed on from one place. Declares nothing.
pub use Rattle.vms_report.specs.Items.{indented, items_at}
pub use Rattle.vms_report.specs.Totals.{event_total, page_total, pcpu_total, place_totals}
pub use Rattle.vms_report.specs.Vmstat.{system_lines, told_events}
pub use Rattle.vms_report.specs.Zoneinfo.{cpu_lines, cpu_words, dead_words, item_lines, mark_lines, node_text}
pub use Rattle.vms_report.specs.Zoneinfo.{protection_words, size_lines, told_value, zone_heading, zone_text}
pub use Rattle.vms_report.specs.Counters.{percpu_counter_words}
pub use Rattle.vms_report.specs.Reports.{report_of, totals_report}
