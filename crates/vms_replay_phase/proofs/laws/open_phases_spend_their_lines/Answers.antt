-- The spending of an open phase.
use Rattle.vms_file_order.proofs.Common.{SpendTheirLines-opened}
use Rattle.vms_replay_phase.proofs.laws.open_phases_spend_their_lines.Goals as goal

pub returns : goal.returns
returns g c = SpendTheirLines-opened (g.P.Rule.answers c.args.rules.now.pressure)
    (g.N.Rule.answers c.args.rules.now.normal)
