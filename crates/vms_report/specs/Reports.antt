-- What a report prints.
use Rattle.std.specs.Prelude.{ℕ, ℤ, List, flat_map}
use Rattle.vms_world.specs.Common.{Header, ReportKind, Vmstat, Zoneinfo, Totals, Counters, sentence}
use Rattle.vms_world.specs.declared.worlds.World.{World}
use Rattle.vms_report.specs.Counters.{counter_lines}
use Rattle.vms_report.specs.Totals.{event_total, page_total, pcpu_total, totals_lines}
use Rattle.vms_report.specs.Vmstat.{vmstat_lines}
use Rattle.vms_report.specs.Zoneinfo.{zoneinfo_text}

-- the report of these totals
abbrev pub totals_report : Header → (page event counter : ℕ → ℤ) → List ℕ
totals_report header page event counter = flat_map sentence (totals_lines header page event counter)

-- the report of a kind on a world
abbrev pub report_of : Header → World → ReportKind → List ℕ
report_of header w Vmstat = flat_map sentence (vmstat_lines header w)
report_of header w Zoneinfo = zoneinfo_text header w
report_of header w Totals =
    totals_report header (page_total header w) (event_total header w) (pcpu_total header w)
report_of header w Counters = flat_map sentence (counter_lines header w)
