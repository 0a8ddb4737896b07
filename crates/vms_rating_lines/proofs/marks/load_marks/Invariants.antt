-- The marks so far are read.
use Rattle.std.proofs.Common.{◌≡◌, ℕ, ◌<◌, length}
use Rattle.vms_rating_lines.specs.ToldSteps.{found_at}
use Rattle.vms_rating_lines.proofs.ToldVisits.{read_of}
use Rattle.vms_rating_lines.proofs.marks.load_marks.Given as goal

abbrev pub invariant-loop-zone : goal.invariant-loop-zone
invariant-loop-zone l = record {
  all : length l.marks ≡ 16;
  read : (g : ℕ) → g < l.zone → found_at l.marks g ≡ read_of l.pages g;
}
