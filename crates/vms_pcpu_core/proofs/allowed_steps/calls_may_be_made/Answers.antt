use Rattle.vms_pcpu_core.proofs.CallsAllowed.{MakesRead-holds, MakesAdd-holds, MakesSync-holds, MakesFoldDead-holds}
use Rattle.vms_pcpu_core.proofs.CallsAllowed.{MakesSum-holds, MakesCompare-holds, MakesLimitedAdd-holds}
use Rattle.vms_pcpu_core.proofs.allowed_steps.calls_may_be_made.Goals as goal

pub returns : goal.returns
returns c =
    record {
      read = MakesRead-holds;
      add = MakesAdd-holds;
      sync = MakesSync-holds;
      fold_dead = MakesFoldDead-holds;
      total = MakesSum-holds;
      compare = MakesCompare-holds;
      limited_add = MakesLimitedAdd-holds;
    }
