-- An amount that rises is found.
use Rattle.std.proofs.Common.{◌≡◌, to_z, of_z, w64, rules, arith}
use Rattle.vms_group_registers.proofs.RisingTimes.{times-none}
use Rattle.vms_group_registers.proofs.registers.GroupRegisters.add_up.Goals as goal

pub returns-in-None : goal.returns-in-None
returns-in-None c =
    let back : to_z w64 (of_z w64 c.args.amount) ≡ c.args.amount = search rules in
    let none = rw back at c.in-None.ensures in
    let nothing = times-none c.args.self.now.rises c.args.slot c.args.group c.args.amount none in
    let some = c.requires.rises in
    absurd (omega (arith, nothing))
