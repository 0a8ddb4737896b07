use Rattle.std.proofs.Common.{◌≡◌}
use Rattle.vms_count.proofs.TakenGroups.{AddsEntries}
use Rattle.vms_count.proofs.folding.fold_group.Given as goal

-- the entries so far are added
abbrev pub invariant-loop-n : goal.invariant-loop-n
invariant-loop-n g l =
    AddsEntries l.table.facts.layout l.group.number l.found.values l.fn.cpu (g.P.Caller.pass l.initial.pass)
    l.initial.sums l.n (g.P.Caller.pass l.pass) l.sums
    × (g.P.Caller.volume l.pass ≡ g.P.Caller.volume l.fn.pass)
