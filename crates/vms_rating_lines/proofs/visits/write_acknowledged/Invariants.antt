-- With the lines of the online CPUs that are left it comes to what is wanted.
use Rattle.std.proofs.Common.{◌≡◌, ◌++◌, drop}
use Rattle.vms_text.specs.Common.{Begins}
use Rattle.vms_calls.specs.Common.{LoadA, acknowledged_at, in_turn}
use Rattle.vms_rating_lines.specs.Lines.{step_lines}
use Rattle.vms_rating_lines.specs.ToldSteps.{acknowledged_told}
use Rattle.vms_rating_lines.proofs.LinesLeft.{if_online}
use Rattle.vms_rating_lines.proofs.visits.write_acknowledged.Given as goal

abbrev pub invariant-loop-number : goal.invariant-loop-number
invariant-loop-number l = record {
  begun : Begins l.initial.out.items l.out.items;
  left : l.out.items ++ step_lines l.caller
      (in_turn (if_online (λ c. LoadA c l.zone (acknowledged_at l.pages c.number l.zone.number)))
      l.number (drop l.number l.pages.cpu))
      ≡ l.initial.out.items ++ step_lines l.caller (acknowledged_told l.pages l.zone.number);
}
