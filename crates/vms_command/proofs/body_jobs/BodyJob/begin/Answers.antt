-- The body stands before its first line, whatever the number of that.
use Rattle.std.proofs.Common.{refl}
use Rattle.vms_command.proofs.body_jobs.BodyJob.begin.Goals as goal

pub returns : goal.returns
returns g c = record {
  printed = c.in_ok-body.ensures.prints;
  same_header = refl;
  here = λ n least. record {
    writable = c.requires;
    judges = c.in_ok-judge.ensures;
    tells = c.zero.ensures;
    after = c.in_ok-body.ensures.stands n least;
  };
}
