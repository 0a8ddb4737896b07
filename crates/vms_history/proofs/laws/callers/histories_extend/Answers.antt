use Rattle.vms_history.proofs.Own as own
use Rattle.vms_history.proofs.laws.callers.histories_extend.Goals as goal

pub returns : goal.returns
returns g c = record {
  same = own.Extends-same;
  both = own.Extends-both;
  after = own.Extends-after;
  own =
      own.Extends-own;
}
