-- A line of a lane, and a report.
use Rattle.std.proofs.Common.{sym, subst}
use Rattle.std.specs.Prelude.{Ok}
use Rattle.vms_group_lines.specs.declared.lines.GroupLine.{GroupLine}
use Rattle.vms_groups.specs.GroupTallies.{Adds}
use Rattle.vms_groups.proofs.tallies.Tally.add.Goals as goal

pub returns-in-Lane : goal.returns-in-Lane
returns-in-Lane c = λ lines refused tells.
    subst (λ (line : GroupLine). Adds lines refused (Ok line) c.add_lane.result c.add_lane.new.self) (sym c.in-Lane.is)
    (c.add_lane.ensures lines refused c.in-Lane.field-0 c.in-Lane.field-1 tells)

pub returns-in-Report : goal.returns-in-Report
returns-in-Report c = λ lines refused tells.
    subst (λ (line : GroupLine). Adds lines refused (Ok line) c.add_report.result c.add_report.new.self)
    (sym c.in-Report.is) (c.add_report.ensures lines refused tells)
