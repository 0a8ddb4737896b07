-- What the lanes of a phase leave that ran side by side.
use Rattle.std.specs.Prelude.{◌≡◌}
use Rattle.vms_world.specs.Common.{Header, settled, numbers_after, TableHistories, event_facts, page_facts, pcpu_facts}
use Rattle.vms_core.specs.Pages as page_histories
use Rattle.vms_event_core.specs.Events as event_histories
use Rattle.vms_world.specs.declared.worlds.World.{World}
use Rattle.vms_phase.specs.declared.closings.ClosedHistories.{ClosedHistories}

-- the events of closed histories
abbrev pub histories_of : ClosedHistories → TableHistories
histories_of closed =
    record { pages = closed.pages.events; events = closed.events.events; counters = closed.counters.events }

-- the tables of a world stand as these histories of a phase leave them, with nothing acknowledged and nothing set
pub record HasClosedTables (header : Header) (w : World) (hs : TableHistories) (next : World) : Type 0 where
  pub pages : next.pages ≡ settled (page_histories.state_after (page_facts header w) hs.pages)
  pub events : next.events ≡ event_histories.state_after (event_facts header w) hs.events
  pub counters : next.counters ≡ numbers_after (pcpu_facts header w) hs.counters

-- the tables of these histories were told what a phase of this header from this world is told: each history is one
-- from the world's part of its table, with the same CPUs online, dead and absent in all
pub record HaveFactsOf (header : Header) (w : World) (closed : ClosedHistories) : Type 0 where
  pub pages : closed.pages.facts ≡ page_facts header w
  pub events : closed.events.facts ≡ event_facts header w
  pub counters : closed.counters.facts ≡ pcpu_facts header w
