-- The visits of the zones so far are written, and then the thresholds of the nodes so far.
use Rattle.std.proofs.Common.{◌≡◌, ◌+◌, ◌-◌, ◌++◌, false, length}
use Rattle.vms_text.specs.Common.{Begins}
use Rattle.vms_calls.specs.Common.{numbers_below}
use Rattle.vms_rating_lines.specs.Lines.{step_lines}
use Rattle.vms_rating_lines.specs.ToldSteps.{places_told, visits_told}
use Rattle.vms_rating_lines.proofs.ratings.write_all.Given as goal

abbrev pub invariant-loop-zone : goal.invariant-loop-zone
invariant-loop-zone l = l.out.items ≡ l.initial.out.items
    ++ step_lines l.caller (visits_told l.pages l.found (λ m. false) (numbers_below l.zone))

abbrev pub invariant-loop-number : goal.invariant-loop-number
invariant-loop-number l = record {
  begun : Begins l.initial.out.items l.out.items;
  left : l.out.items ++ step_lines l.caller
      (places_told l.pages l.number (length l.layout.zones + length l.layout.nodes - l.number))
      ≡ l.initial.out.items
      ++ step_lines l.caller (places_told l.pages (length l.layout.zones) (length l.layout.nodes));
}
