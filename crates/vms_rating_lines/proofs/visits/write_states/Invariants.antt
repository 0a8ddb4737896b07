-- With the lines of the states that are left it comes to what is wanted.
use Rattle.std.proofs.Common.{◌≡◌, ◌++◌, drop}
use Rattle.vms_text.specs.Common.{Begins}
use Rattle.vms_calls.specs.Common.{in_turn, state_steps}
use Rattle.vms_rating_lines.specs.Lines.{step_lines}
use Rattle.vms_rating_lines.proofs.visits.write_states.Given as goal

abbrev pub invariant-loop-number : goal.invariant-loop-number
invariant-loop-number l = record {
  begun : Begins l.initial.out.items l.out.items;
  left : l.out.items ++ step_lines l.caller (in_turn state_steps l.number (drop l.number l.pages.cpu))
      ≡ l.initial.out.items ++ step_lines l.caller (in_turn state_steps 0 l.pages.cpu);
}
