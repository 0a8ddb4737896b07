use Rattle.vms_plain_pages.proofs.TakenGroups.{AddsEntries}
use Rattle.vms_plain_pages.proofs.folding.fold_group.Given as goal

-- the entries so far are added
abbrev pub invariant-loop-n : goal.invariant-loop-n
invariant-loop-n l =
    AddsEntries l.layout l.group.number l.found.values l.initial.pages l.initial.sums l.n l.pages l.sums
