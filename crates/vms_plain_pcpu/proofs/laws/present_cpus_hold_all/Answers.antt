-- What the laws of a history say of the CPUs that are present.
use Rattle.std.proofs.Common.{[]}
use Rattle.vms_plain_pcpu.proofs.Rooms.{total_in-legal, unknown_in-legal}
use Rattle.vms_plain_pcpu.proofs.laws.present_cpus_hold_all.Goals as goal

pub returns-clause-unknown : goal.returns-clause-unknown
returns-clause-unknown c facts h j legal =
    unknown_in-legal facts h legal (c.laws_are_kept.ensures facts [] h legal) j

pub returns-clause-totals : goal.returns-clause-totals
returns-clause-totals c facts h j legal j_in =
    total_in-legal facts h legal (c.laws_are_kept.ensures facts [] h legal) j j_in
