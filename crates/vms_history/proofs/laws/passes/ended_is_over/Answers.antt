use Rattle.vms_history.proofs.PassLaws as passes
use Rattle.vms_history.proofs.laws.passes.ended_is_over.Goals as goal

pub returns : goal.returns
returns g c = record {
  lives = passes.lives_in-ended g.T.Table.machine;
  before =
      passes.lives_in-before g.T.Table.machine;
  own = passes.own-ended g.T.Table.machine;
}
