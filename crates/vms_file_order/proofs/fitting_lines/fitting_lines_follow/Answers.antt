-- The lines so far of a script that fits, and its next line.
use Rattle.vms_file_order.proofs.FittingLines.{MayFollow-opened, MayFollow-opening, StayWithinVolumes-front}
use Rattle.vms_file_order.proofs.fitting_lines.fitting_lines_follow.Goals as goal

pub returns : goal.returns
returns g c =
    let pressure = g.R.ThresholdRules.pressure in
    let normal = g.R.ThresholdRules.normal in
    record {
      volumes = λ header w lanes items hs now start more once opened is fits. StayWithinVolumes-front header start w is
          items more fits hs (c.phases_spend_their_lines.ensures.so_far header w lanes items hs now once opened);
      next = λ header w lanes items hs now start item more once opened is fits. MayFollow-opened header start w is items
          item more fits pressure normal lanes once hs now opened;
      opening = λ header w items start item more is fits. MayFollow-opening header start w is items item more fits;
    }
