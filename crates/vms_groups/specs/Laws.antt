-- Laws of the phases that `groups` makes of a text.
use Rattle.std.specs.Prelude.{◌≡◌, ℕ, List, None}
use Rattle.vms_stream.specs.Common.{OutcomesLead, OutcomesLeadToEnd, halted, shown_on, state_after, waiting}
use Rattle.vms_stream.specs.Common.{with_outcomes}
use Rattle.vms_groups.specs.GroupTexts.{groups_texts, shown_by_groups}
use Rattle.vms_groups.specs.MadePhases.{AreAllPhases, AreFirstPhases}
use Rattle.vms_groups.specs.PastPhases.{PastGroupPhase}

-- phases that lead through the lines of a text are its first ones. Where they lead to its end, no line stops the
-- command, and each phase has its outcome, they are all
pub record TextsLeadOn : Type 0 where
  pub lines : (made : List PastGroupPhase) (lines : List (List ℕ))
      → OutcomesLead (waiting groups_texts) (waiting groups_texts).start made lines → AreFirstPhases lines made
  pub to_end : (made : List PastGroupPhase) (lines : List (List ℕ))
      → OutcomesLeadToEnd (waiting groups_texts) (waiting groups_texts).start made lines → AreFirstPhases lines made
  pub whole : (made : List PastGroupPhase) (lines : List (List ℕ))
      → OutcomesLeadToEnd (waiting groups_texts) (waiting groups_texts).start made lines
      → halted (with_outcomes (waiting groups_texts) made) (with_outcomes (waiting groups_texts) made).start lines
      ≡ None
      → shown_on (waiting groups_texts) shown_by_groups (state_after (with_outcomes (waiting groups_texts) made)
      (with_outcomes (waiting groups_texts) made).start lines)
      → AreAllPhases lines made
