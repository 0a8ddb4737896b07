use Rattle.std.proofs.Common.{◌≡◌, ◌*◌}
use Rattle.vms_count.specs.Common.{AreSums, FoldsPlaces}
use Rattle.vms_count.proofs.folding.fold.Given as goal

-- the places so far are visited, and the sums are small
abbrev pub invariant-loop-number : goal.invariant-loop-number
invariant-loop-number g l =
    FoldsPlaces l.table.facts.layout l.own l.cpu l.number (g.P.Caller.pass l.pass) (g.P.Caller.pass l.initial.pass)
    l.initial.sums l.sums
    × AreSums (2048 * l.number) l.sums
    × (g.P.Caller.volume l.pass ≡ g.P.Caller.volume l.initial.pass)
