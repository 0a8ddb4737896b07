use Rattle.vms_text.specs.Common.{Begins}
use Rattle.vms_plain_pages.proofs.TakenGroups.{AddsEntries}
use Rattle.vms_call_lines.proofs.FoldLines.{EntriesLeft}
use Rattle.vms_call_lines.proofs.folds.write_group.Given as goal

-- the entries so far are added, with their lines
abbrev pub invariant-loop-n : goal.invariant-loop-n
invariant-loop-n l =
    AddsEntries l.layout l.group.number l.found.values l.initial.pages l.initial.sums l.n l.pages l.sums
    × EntriesLeft l.caller l.group.number l.found.values l.initial.out.items l.n l.out.items
    × Begins l.initial.out.items l.out.items
