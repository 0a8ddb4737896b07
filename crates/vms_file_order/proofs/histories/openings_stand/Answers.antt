-- The opening, pass by pass.
use Rattle.vms_file_order.proofs.Openings.{HasPass-opening, StandsOpen-opening, own-opening_others}
use Rattle.vms_file_order.proofs.histories.openings_stand.Goals as goal

pub returns : goal.returns
returns g c = record {
  stands = λ facts lanes can_begin may once. StandsOpen-opening g.T.LineTable.machine g.T.LineTable.quiet
      g.T.LineTable.passes facts lanes can_begin (g.T.LineTable.fresh facts) may once;
  pass = HasPass-opening g.T.LineTable.passes;
  others = own-opening_others g.T.LineTable.passes;
}
