use Rattle.vms_history.proofs.PassLaws as passes
use Rattle.vms_history.proofs.laws.passes.who_may_act.Goals as goal

pub returns : goal.returns
returns g c = record {
  given = passes.caller_is_given g.T.Table.machine;
  lives =
      passes.caller_lives g.T.Table.machine;
  works = passes.caller_works g.T.Table.machine;
}
