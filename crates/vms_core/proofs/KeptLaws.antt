-- For other crates too: all laws of a legal history in one record.
use Rattle.std.proofs.Common.{◌++◌}
use Rattle.vms_history.proofs.Common.{prefix_is_legal}
use Rattle.vms_core.specs.declared.steps.Facts.{Facts}
use Rattle.vms_core.specs.Common.{KeepsLaws, pages, History, IsLegal}
use Rattle.vms_core.proofs.Bounds.{diff_at-bounded}
use Rattle.vms_core.proofs.DeadCpus.{dead-move_once}
use Rattle.vms_core.proofs.Drift.{drift-bounded, system_drift-bounded, excess-bounded}
use Rattle.vms_core.proofs.Emptied.{emptied-kept}
use Rattle.vms_core.proofs.GroupLists.{NameEight-holds, group_is_list}
use Rattle.vms_core.proofs.HiddenPages.{absent-zero, hidden-within}
use Rattle.vms_core.proofs.Items.{system_totals-kept}
use Rattle.vms_core.proofs.LiveOwners.{owned-online, found-stands}
use Rattle.vms_core.proofs.Magnitudes.{magnitudes-bounded}
use Rattle.vms_core.proofs.MarkCovers.{covers-kept}
use Rattle.vms_core.proofs.Moves.{moves-bounded, volumes-kept}
use Rattle.vms_core.proofs.OfflineGroups.{offline-stay_taken}
use Rattle.vms_core.proofs.PeakBounds.{last_within-holds, thresholds-within, peaks-in_range, used-bounded}
use Rattle.vms_core.proofs.PeakBounds.{loaded-bounded, loaded-within_peak, loaded_numbers-hold}
use Rattle.vms_core.proofs.PeakBounds.{acknowledged_numbers-hold}
use Rattle.vms_core.proofs.SettingRanges.{thresholds-in_range, marks-in_range}
use Rattle.vms_core.proofs.Settings.{threshold_at-state_after, sets-state_after, cpu_at-state_after}
use Rattle.vms_core.proofs.Shapes.{HasShape-state_after}
use Rattle.vms_core.proofs.Spending.{spent-by_owners, changes-by_cpu}
use Rattle.vms_core.proofs.Sums.{totals-kept}

pub laws-kept : (facts : Facts) (h : History) → IsLegal facts h → KeepsLaws facts h
laws-kept facts h legal = record {
  shape = HasShape-state_after facts h legal;
  totals = totals-kept facts h legal;
  system_totals = system_totals-kept facts h legal;
  drift = drift-bounded facts h legal;
  system_drift = system_drift-bounded facts h legal;
  excess = excess-bounded facts h legal;
  differentials = diff_at-bounded facts h legal;
  by_peaks = last_within-holds facts h legal;
  thresholds_by_peaks = thresholds-within facts h legal;
  used = used-bounded facts h legal;
  loaded = loaded-bounded facts h legal;
  loaded_by_peaks = loaded-within_peak facts h legal;
  loaded_numbers = loaded_numbers-hold facts h legal;
  acknowledged_numbers = acknowledged_numbers-hold facts h legal;
  thresholds = thresholds-in_range facts h legal;
  peaks = peaks-in_range facts h legal;
  marks = marks-in_range facts h legal;
  told_thresholds = threshold_at-state_after facts h legal;
  told_numbers = sets-state_after facts h legal;
  told_cpus = cpu_at-state_after facts h legal;
  covers = covers-kept facts h legal;
  hidden = hidden-within facts h legal;
  absent = absent-zero facts h legal;
  emptied = emptied-kept facts h legal;
  offline_taken = offline-stay_taken facts h legal;
  dead = dead-move_once facts h legal;
  owners = owned-online facts h legal;
  found = found-stands facts h legal;
  lists = NameEight-holds facts h legal;
  groups = group_is_list facts h legal;
  volumes = volumes-kept facts h legal;
  spending = spent-by_owners facts h legal;
  changes = changes-by_cpu facts h legal;
  moves = moves-bounded facts h legal;
  small = magnitudes-bounded facts h legal;
}

-- every beginning of a legal history is legal
pub laws-kept_before : (facts : Facts) (more h : History) → IsLegal facts (more ++ h) → KeepsLaws facts h
laws-kept_before facts more h legal = laws-kept facts h (prefix_is_legal pages facts more h legal)
