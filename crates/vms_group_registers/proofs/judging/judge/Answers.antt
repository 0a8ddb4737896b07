-- The verdict where there is room for all events is that of the tree alone.
use Rattle.std.proofs.Common.{sym, subst}
use Rattle.std.specs.Prelude.{reverse}
use Rattle.vms_group_core.specs.declared.steps.GroupFacts.{GroupFacts}
use Rattle.vms_group_core.specs.Common.{groups as tree_of_groups}
use Rattle.vms_judge.specs.Common.{IsVerdict}
use Rattle.vms_group_registers.specs.Bounded.{HadRoom}
use Rattle.vms_group_registers.proofs.EnoughRoom.{verdict-same}
use Rattle.vms_group_registers.proofs.judging.judge.Goals as goal

pub returns : goal.returns
returns c =
    let same = c.in_ok-groups.ensures in
    let events = c.args.events.now in
    let room = c.most_rising-room.result in
    let had = subst (λ (f : GroupFacts). HadRoom f.tree room (reverse events)) (sym same)
    c.most_rising-room.ensures.enough in
    subst (λ (f : GroupFacts). IsVerdict tree_of_groups f events c.in_ok-verdict.verdict) same
    (verdict-same (record { groups = c.in_ok-groups.groups; room = room }) events c.in_ok-verdict.verdict had
    c.in_ok-verdict.ensures)
