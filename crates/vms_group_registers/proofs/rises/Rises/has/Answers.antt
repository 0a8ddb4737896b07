-- An amount rises where it is found.
use Rattle.std.proofs.Common.{◌≡◌, to_z, of_z, w64, rules}
use Rattle.vms_group_registers.proofs.RisingTimes.{found-times}
use Rattle.vms_group_registers.proofs.rises.Rises.has.Goals as goal

pub returns : goal.returns
returns c =
    let back : to_z w64 (of_z w64 c.args.amount) ≡ c.args.amount = search rules in
    let found = rw back at c.find.ensures in
    rw c.is_some.ensures
    (found-times c.args.self.now c.args.slot c.args.group c.args.amount c.find.result found)
