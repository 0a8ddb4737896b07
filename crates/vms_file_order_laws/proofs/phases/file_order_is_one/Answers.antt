-- In each table the steps of an act are determined by the history in which it begins, and so the lines make one.
use Rattle.std.proofs.Common.{ap}
use Rattle.vms_world.specs.Common.{TableHistories, left_by}
use Rattle.vms_file_order_laws.proofs.OnePhase.{counters-once, events-once, one-phase, pages-once}
use Rattle.vms_file_order_laws.proofs.phases.file_order_is_one.Goals as goal

pub returns : goal.returns
returns g c =
    let pressure = g.R.ThresholdRules.pressure in
    let normal = g.R.ThresholdRules.normal in
    record {
      pages = λ header w items hs hs' pressure_once normal_once order order'. pages-once header pressure normal w
          items hs hs' pressure_once normal_once order order';
      events = λ header w items hs hs' order order'. events-once header pressure normal w items hs hs' order order';
      counters = λ header w items hs hs' order order'. counters-once header pressure normal w items hs hs' order order';
      histories = λ header w items hs hs' pressure_once normal_once order order'. one-phase header pressure normal w
          items hs hs' pressure_once normal_once order order';
      world = λ header w items hs hs' pressure_once normal_once order order'.
          ap (λ (one : TableHistories). left_by header w items one)
          (one-phase header pressure normal w items hs hs' pressure_once normal_once order order');
    }
