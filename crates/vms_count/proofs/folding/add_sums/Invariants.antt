use Rattle.std.proofs.Common.{◌≡◌}
use Rattle.vms_count.proofs.ItemAdditions.{AddsItems}
use Rattle.vms_count.proofs.folding.add_sums.Given as goal

-- the items so far got their sums
abbrev pub invariant-loop-number : goal.invariant-loop-number
invariant-loop-number g l =
    AddsItems l.table.facts.layout l.sums (g.P.Caller.pass l.initial.pass) l.number (g.P.Caller.pass l.pass)
    × (g.P.Caller.volume l.pass ≡ g.P.Caller.volume l.initial.pass)
