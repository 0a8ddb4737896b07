use Rattle.vms_pcpu_core.proofs.OwnSteps.{read-adds, add-adds, sync-adds, fold_dead-adds, sum-adds, compare-adds}
use Rattle.vms_pcpu_core.proofs.OwnSteps.{limited_add-adds}
use Rattle.vms_pcpu_core.proofs.callers.calls_add_their_amounts.Goals as goal

pub returns : goal.returns
returns c =
    record {
      read = read-adds;
      add = add-adds;
      sync = sync-adds;
      fold_dead = fold_dead-adds;
      total = sum-adds;
      compare = compare-adds;
      limited_add = limited_add-adds;
    }
