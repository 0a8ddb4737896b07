use Rattle.std.proofs.Common.{◌*◌}
use Rattle.vms_plain_pages.specs.Common.{AreSums}
use Rattle.vms_plain_pages.proofs.FoldedPlaces.{FoldsPlaces}
use Rattle.vms_plain_pages.proofs.folding.fold.Given as goal

-- the places so far are visited, and the sums are small
abbrev pub invariant-loop-number : goal.invariant-loop-number
invariant-loop-number l =
    FoldsPlaces l.layout l.own l.cpu l.number l.initial.pages l.pages l.initial.sums l.sums
    × AreSums (2048 * l.number) l.sums
