use Rattle.std.proofs.Common.{◌*◌}
use Rattle.vms_plain_pages.specs.Common.{AreSums}
use Rattle.vms_call_lines.proofs.FoldLines.{WritesPlaces}
use Rattle.vms_call_lines.proofs.folds.write_fold.Given as goal

-- the places so far are visited, and the sums are small
abbrev pub invariant-loop-number : goal.invariant-loop-number
invariant-loop-number l =
    WritesPlaces l.layout l.own l.cpu l.caller l.number l.initial.pages l.pages l.initial.sums l.sums
    l.initial.out.items l.out.items
    × AreSums (2048 * l.number) l.sums
