use Rattle.vms_text.specs.Common.{Begins}
use Rattle.vms_plain_pages.proofs.AddedSums.{AddsBelow}
use Rattle.vms_call_lines.proofs.FoldLines.{SumsLeft}
use Rattle.vms_call_lines.proofs.folds.write_sums.Given as goal

-- the sums so far are added, with their lines
abbrev pub invariant-loop-number : goal.invariant-loop-number
invariant-loop-number l = AddsBelow l.layout l.sums l.initial.pages l.number l.pages
    × SumsLeft l.layout l.sums l.caller l.initial.out.items l.number l.out.items
    × Begins l.initial.out.items l.out.items
