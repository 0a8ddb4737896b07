use Rattle.std.proofs.Common.{◌≡◌}
use Rattle.vms_event.proofs.LoadedWords.{SoFar}
use Rattle.vms_event.proofs.tables.EventTable.all_events.Given as goal

-- what is loaded so far adds up, and the volumes are as they were
abbrev pub invariant-loop-number : goal.invariant-loop-number
invariant-loop-number g l =
    SoFar l.self.facts l.event (g.P.Works.pass l.pass) (g.P.Works.pass l.fn.pass) l.number l.sum
    × (g.P.EventCaller.volume l.pass ≡ g.P.EventCaller.volume l.fn.pass)
