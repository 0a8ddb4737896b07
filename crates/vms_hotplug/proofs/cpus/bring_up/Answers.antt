-- A world stays one of its header.
use Rattle.vms_hotplug.proofs.BringUps.{IsWorldOf-up}
use Rattle.vms_hotplug.proofs.cpus.bring_up.Goals as goal

pub returns-clause-stays : goal.returns-clause-stays
returns-clause-stays g c =
    IsWorldOf-up c.args.header.now c.args.world.now c.args.cpu.number c.requires.world c.requires.cpu
    (g.N.Rule.answers c.args.rules.now.normal) c.tells.ensures.normal c.refresh.new.pages c.set.new.self c.set.ensures
    c.refresh.ensures
