-- The spending of each table, by the laws of calls: of a phase that ended, and of one that is open.
use Rattle.vms_file_order.proofs.SpentLines.{SpendTheirLines-made, SpendTheirLines-opened}
use Rattle.vms_file_order.proofs.volumes.phases_spend_their_lines.Goals as goal

pub returns : goal.returns
returns g c =
    let pressure = g.R.ThresholdRules.pressure in
    let normal = g.R.ThresholdRules.normal in
    record { ended = SpendTheirLines-made pressure normal; so_far = SpendTheirLines-opened pressure normal }
