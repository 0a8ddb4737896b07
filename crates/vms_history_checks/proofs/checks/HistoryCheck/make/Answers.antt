-- All lines are still to come.
use Rattle.std.proofs.Common.{refl, arith}
use Rattle.vms_history_checks.proofs.checks.HistoryCheck.make.Goals as goal

pub returns-clause-accepts : goal.returns-clause-accepts
returns-clause-accepts g c segments stands bounds phases = record {
  all = stands;
  left = segments;
  at = refl;
  begun = refl;
  crossed = omega arith;
  bounds = bounds;
  all_scripts = phases;
  few = omega arith;
  scripts = phases;
  events = refl;
  lines = omega arith;
}
