-- A line of a lane is decided as its call is.
use Rattle.std.proofs.Common.{subst, sym}
use Rattle.vms_group_lines.specs.declared.lines.GroupLine.{GroupLine}
use Rattle.vms_group_lines.specs.Common.{Decides}
use Rattle.vms_group_lines.proofs.judges.GroupJudge.allow.Goals as goal

pub returns-in-Lane : goal.returns-in-Lane
returns-in-Lane c =
    subst (λ (line : GroupLine). Decides c.args.header.now line c.args.self.now c.allow_call.new.self
    c.allow_call.result) (sym c.in-Lane.is) c.allow_call.ensures
