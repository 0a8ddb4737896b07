-- Act by act, there and back.
use Rattle.vms_own_acts.proofs.OwnRows.{acts-of_own, acts-of_whole_row, acts-own, row-of_acts}
use Rattle.vms_own_acts.proofs.laws.acts_go_by_own_events.Goals as goal

pub returns : goal.returns
returns g c =
    let P = g.R.ThresholdRules.pressure in
    let N = g.R.ThresholdRules.normal in
    record {
      own = λ header base lane p acts h is.
          (acts-own header base P N lane p acts h is, acts-of_own header base P N lane p acts h is);
      row = λ header base lane p acts h is.
          (row-of_acts header base P N lane p acts h is, acts-of_whole_row header base P N lane p acts h is);
    }
