-- The states of CPUs after a phase, and while it is open.
use Rattle.vms_file_order.proofs.CpuStates.{HasStates-made, cpu_at-opened}
use Rattle.vms_file_order.proofs.cpu_states.cpu_states_follow_lines.Goals as goal

pub returns : goal.returns
returns g c =
    let pressure = g.R.ThresholdRules.pressure in
    let normal = g.R.ThresholdRules.normal in
    record {
      ended = λ header w items hs start phase known before. HasStates-made pressure normal header w start before items
          known hs phase;
      so_far = λ header w lanes items hs now start once opened known before. cpu_at-opened pressure normal header w
          start before items known lanes once hs now opened;
    }
