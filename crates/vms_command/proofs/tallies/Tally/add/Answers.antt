use Rattle.std.proofs.Common.{sym, subst}
use Rattle.std.specs.Prelude.{Ok}
use Rattle.vms_text.specs.declared.acts.Line.{Line}
use Rattle.vms_command.specs.Common.{Adds}
use Rattle.vms_command.proofs.tallies.Tally.add.Goals as goal

pub returns-in-Lane : goal.returns-in-Lane
returns-in-Lane c = λ above tells.
    subst (λ (line : Line). Adds above (Ok line) c.add_lane.result c.add_lane.new.self) (sym c.in-Lane.is)
    (c.add_lane.ensures above c.in-Lane.field-0 c.in-Lane.field-1 tells)
