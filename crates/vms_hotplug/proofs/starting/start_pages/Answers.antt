-- The bare page counters may be refreshed, and then they are those that a run begins with.
use Rattle.vms_hotplug.proofs.StartedWorlds.{MayRefresh-is, StartsPages-told}
use Rattle.vms_hotplug.proofs.starting.start_pages.Goals as goal

pub refresh-requires-clause-unrated : goal.refresh-requires-clause-unrated
refresh-requires-clause-unrated g c =
    MayRefresh-is c.args.header.now c.requires (g.N.Rule.answers c.args.rules.now.normal) c.in_ok-pages.pages
    c.in_ok-pages.ensures

pub returns : goal.returns
returns g c =
    StartsPages-told c.args.header.now c.requires (g.N.Rule.answers c.args.rules.now.normal) c.refresh.new.pages
    c.in_ok-pages.pages c.in_ok-pages.ensures c.refresh.ensures
