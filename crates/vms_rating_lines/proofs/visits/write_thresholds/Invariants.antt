-- With the lines of the online CPUs that are left it comes to what is wanted.
use Rattle.std.proofs.Common.{◌≡◌, ◌++◌, drop}
use Rattle.vms_text.specs.Common.{Begins}
use Rattle.vms_calls.specs.Common.{SetT, threshold_at, in_turn}
use Rattle.vms_rating_lines.specs.Lines.{step_lines}
use Rattle.vms_rating_lines.specs.ToldSteps.{thresholds_told}
use Rattle.vms_rating_lines.proofs.LinesLeft.{if_online}
use Rattle.vms_rating_lines.proofs.visits.write_thresholds.Given as goal

abbrev pub invariant-loop-number : goal.invariant-loop-number
invariant-loop-number l = record {
  begun : Begins l.initial.out.items l.out.items;
  left : l.out.items ++ step_lines l.caller
      (in_turn (if_online (λ c. SetT c l.place (threshold_at l.pages c.number l.place.number)))
      l.number (drop l.number l.pages.cpu))
      ≡ l.initial.out.items ++ step_lines l.caller (thresholds_told l.pages l.place.number);
}
