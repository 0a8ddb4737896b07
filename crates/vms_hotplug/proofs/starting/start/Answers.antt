-- These page counters, with nothing counted, are the world that a run begins with.
use Rattle.vms_hotplug.proofs.StartedWorlds.{IsWorldOf-told, Starts-told}
use Rattle.vms_hotplug.proofs.starting.start.Goals as goal

pub returns-clause-start : goal.returns-clause-start
returns-clause-start g c =
    Starts-told c.args.header.now c.requires (g.N.Rule.answers c.args.rules.now.normal) c.in_ok-pages.pages
    c.in_ok-pages.ensures c.world_with.result c.world_with.ensures

pub returns-clause-world : goal.returns-clause-world
returns-clause-world g c =
    IsWorldOf-told c.args.header.now c.requires (g.N.Rule.answers c.args.rules.now.normal) c.in_ok-pages.pages
    c.in_ok-pages.ensures c.world_with.result c.world_with.ensures c.tells.ensures.normal
