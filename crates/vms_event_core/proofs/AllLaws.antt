-- For other crates too: all laws hold of every legal history.
use Rattle.std.proofs.Common.{◌++◌, ◌∙◌}
use Rattle.vms_history.proofs.Common.{owner_may_own, prefix_is_legal}
use Rattle.vms_event_core.specs.declared.steps.EventFacts.{EventFacts}
use Rattle.vms_event_core.specs.Common.{events, History, IsLegal, KeepsLaws}
use Rattle.vms_event_core.proofs.Bounds.{words-bounded}
use Rattle.vms_event_core.proofs.Carrying.{carries_as_control}
use Rattle.vms_event_core.proofs.DeadCpus.{dead_words-move_once}
use Rattle.vms_event_core.proofs.OfflineCpus.{absent-zero}
use Rattle.vms_event_core.proofs.Spending.{spent-affordable, counted-spent}
use Rattle.vms_event_core.proofs.StateWords.{HasShape-state_after, word_at-state_after}
use Rattle.vms_event_core.proofs.Totals.{totals-kept}

laws-kept : (facts : EventFacts) (h : History) → IsLegal facts h → KeepsLaws facts h
laws-kept facts h legal = record {
  shape = HasShape-state_after facts h legal;
  words = λ c k. word_at-state_after facts h c k legal;
  totals = totals-kept facts h legal;
  spendings = λ k. counted-spent facts h k legal;
  volumes = λ c k. spent-affordable facts h c k legal;
  bounds = words-bounded facts h legal;
  dead = λ c k. dead_words-move_once facts h c k legal;
  absent = λ c k c_in absent k_in.
      word_at-state_after facts h c k legal k_in ∙ absent-zero facts h c k legal c_in absent k_in;
  carriers = λ p k. carries_as_control facts h p k legal;
  owners = λ p owner. owner_may_own events facts h p owner legal;
}

pub beginnings-kept : (facts : EventFacts) (more h : History) → IsLegal facts (more ++ h) → KeepsLaws facts h
beginnings-kept facts more h legal = laws-kept facts h (prefix_is_legal events facts more h legal)
