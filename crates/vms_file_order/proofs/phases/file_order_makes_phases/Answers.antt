-- The three histories of a phase in file order make its lines.
use Rattle.vms_file_order.proofs.PhasesInOrder.{IsWorldPhase-made, MakeInAnyOrder-in_order}
use Rattle.vms_file_order.proofs.phases.file_order_makes_phases.Goals as goal

pub returns : goal.returns
returns g c =
    let pressure = g.R.ThresholdRules.pressure in
    let normal = g.R.ThresholdRules.normal in
    record {
      makes = λ header w items hs order. MakeInAnyOrder-in_order header pressure normal w items hs order;
      phase = λ header w items hs order fit nothing.
          let phase = MakeInAnyOrder-in_order header pressure normal w items hs order in
          IsWorldPhase-made pressure normal header w items hs phase
          (c.phases_spend_their_lines.ensures.ended header w items hs phase) fit nothing;
    }
