-- A line that counts.
use Rattle.std.proofs.Common.{sym, subst}
use Rattle.std.specs.Prelude.{Result}
use Rattle.vms_group_lines.specs.declared.causes.GroupCause.{GroupCause}
use Rattle.vms_group_lines.specs.declared.lines.GroupLine.{GroupLine}
use Rattle.vms_groups.specs.GroupTallies.{Adds}
use Rattle.vms_groups.proofs.tallies.Tally.count.Goals as goal

pub returns-in-Ok : goal.returns-in-Ok
returns-in-Ok c = λ lines refused tells.
    subst (λ (judged : Result GroupLine GroupCause). Adds lines refused judged c.add.result c.add.new.self)
    (sym c.in-Ok.is) (c.add.ensures lines refused tells)
