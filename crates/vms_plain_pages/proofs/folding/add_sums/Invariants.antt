use Rattle.vms_plain_pages.proofs.AddedSums.{AddsBelow}
use Rattle.vms_plain_pages.proofs.folding.add_sums.Given as goal

-- the sums so far are added
abbrev pub invariant-loop-number : goal.invariant-loop-number
invariant-loop-number l = AddsBelow l.layout l.sums l.initial.pages l.number l.pages
