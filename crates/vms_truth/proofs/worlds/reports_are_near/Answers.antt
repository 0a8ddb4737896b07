-- Every world on a way is one of the header, and its numbers are near.
use Rattle.vms_truth.proofs.NearTables.{percpu-near}
use Rattle.vms_truth.proofs.NearWorlds.{numbers-near, ways-kept, ways-near}
use Rattle.vms_truth.proofs.worlds.reports_are_near.Goals as goal

pub returns : goal.returns
returns g c =
    let pressure = g.R.ThresholdRules.pressure in
    let normal = g.R.ThresholdRules.normal in
    let crossed = c.boundaries_keep_worlds.ensures in
    let phase = c.phases_keep_worlds.ensures.world in
    record {
      near = ways-near pressure normal crossed phase (λ header w of.
          numbers-near c.numbers_stay_near_totals.ensures.counters c.numbers_stay_near_totals.ensures.items header w of
          (percpu-near header w of c.laws_are_kept.ensures));
      worlds = ways-kept pressure normal crossed phase;
    }
