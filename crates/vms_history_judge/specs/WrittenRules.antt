-- When lines are a history of the page counters of a trace, by thresholds that go by these rules.
use Rattle.std.specs.Prelude.{◌≡◌, ℕ, List, [], Option, Some, length, map, reverse}
use Rattle.vms_core.specs.Pages.{History}
use Rattle.vms_written.specs.Common.{IsWrittenHistory}
use Rattle.vms_world.specs.Common.{Header, Segment, ZoneSize}
use Rattle.vms_written_lines.specs.Lines.{read_line}
use Rattle.vms_history_checks.specs.Accepts.{IsLineFault, events_in}
use Rattle.vms_history_checks.specs.Leads.{BeginsHistory}
use Rattle.vms_history_checks.specs.Said.{with_lines}
use Rattle.vms_certifying.specs.HistoryRules.{HistoryRules}

-- the lists of page events that the lines say, the newest list first
abbrev pub lists_of : Header → List (List ℕ) → Option (List History)
lists_of header lines = with_lines (map (read_line header.layout) lines) []

abbrev pub written_rules : (pressure normal : ZoneSize → ℕ → ℕ → Type 0) → HistoryRules
written_rules pressure normal = record {
  Begins = λ header segments lines. (hs : List History) × (lists_of header lines ≡ Some hs)
      × BeginsHistory header pressure normal segments hs;
  IsFault = λ header segments lines line cause. (hs : List History) × (lists_of header lines ≡ Some hs)
      × IsLineFault pressure normal header segments hs (read_line header.layout line) cause;
  IsWhole = λ header segments lines phases events. (hs : List History) × (lists_of header lines ≡ Some hs)
      × IsWrittenHistory header pressure normal segments (reverse hs) × (phases ≡ length hs)
      × (events ≡ events_in hs);
}
