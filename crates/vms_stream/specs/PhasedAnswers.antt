-- What each status of a command says whose phases have outcomes.
use Rattle.std.specs.Prelude.{ℕ, ◌≤◌, ◌⊎◌, List, length, Option}
use mathlib.Core.Logic.{inl, inr}
use Rattle.vms_stream.specs.Answers.{TakesAndWrites, BeginsOutput, Says, lines_taken, most_bytes}
use Rattle.vms_stream.specs.declared.statuses.Status.{Status}
use Rattle.vms_stream.specs.declared.statuses.Status.TheVariants.{Done, Words, Header, Refused, ReadFault, WriteFault}
use Rattle.vms_stream.specs.declared.statuses.Status.TheVariants.{Memory, NotCertified, TooLong}
use Rattle.vms_text.specs.Common.{lines_of}
use Rattle.vms_stream.specs.PhasedBehaviors.{PhasedBehavior, with_outcomes}
use Rattle.vms_stream.specs.PhasedBehaviors.Way.{On}
use Rattle.vms_stream.specs.Pieces.{whole_lines}
use Rattle.vms_stream.specs.Readings.{Reading}
use Rattle.vms_stream.specs.Ways.{HasAllOutcomes}
use Rattle.vms_stream.specs.Leading.{OutcomesLead, OutcomesLeadToEnd}
use Rattle.vms_stream.specs.Jobs.{Grows, shown_on}

-- these are the outcomes of the phases that end at these lines, up to one that stops the command: each phase has its
-- own, and there are no more
abbrev pub AreOutcomesOf : {S O : Type 0} → PhasedBehavior S O → List O → List (List ℕ) → Type 0
AreOutcomesOf phased outcomes lines =
    OutcomesLead phased phased.start outcomes lines × HasAllOutcomes phased (On phased.start outcomes) lines

-- the outcomes lead through the lines that were taken: the whole lines that count, or at the end of the input all,
-- where a phase may end too
abbrev pub OutcomesLeadTaken : {S O : Type 0} → PhasedBehavior S O → List O → List ℕ → Type 0 → Type 0
OutcomesLeadTaken phased outcomes taken at_end =
    OutcomesLead phased phased.start outcomes (lines_taken taken)
    ⊎ (at_end × (length taken ≤ most_bytes) × OutcomesLeadToEnd phased phased.start outcomes (lines_of taken))

-- where a write failed, or memory ran out: the outcomes lead through the lines that were taken, and each phase that
-- ended above the last piece has its own
pub record LeadAbove {S O : Type 0} (phased : PhasedBehavior S O) (outcomes : List O) (taken written : List ℕ)
    (reading : Reading) (begins : BeginsOutput (with_outcomes phased outcomes) taken written reading) : Type 0 where
  pub leads : OutcomesLeadTaken phased outcomes taken reading.at_end
  pub above : HasAllOutcomes phased (On phased.start outcomes) (whole_lines begins.last_piece.before)

-- which phases were made, by what a status says. A phase ended at the end of the input only where the command came to
-- it, and not after a failed read, nor where a line stopped the command or the input has too many bytes
abbrev pub AreMade : {S O : Type 0} (phased : PhasedBehavior S O) (shows : S → Option O → Type 0) (outcomes : List O)
    (taken written : List ℕ) (reading : Reading) (status : Status)
    → Says (with_outcomes phased outcomes) (shown_on phased shows) status taken written reading → Type 0
AreMade phased shows outcomes taken written reading Done ends =
    OutcomesLeadToEnd phased phased.start outcomes (lines_of taken)
AreMade phased shows outcomes taken written reading Words says = ⊥
AreMade phased shows outcomes taken written reading Header (inl halts) = AreOutcomesOf phased outcomes halts.lines
AreMade phased shows outcomes taken written reading Header (inr ends) =
    OutcomesLeadToEnd phased phased.start outcomes (lines_of taken)
AreMade phased shows outcomes taken written reading Refused ends =
    OutcomesLeadToEnd phased phased.start outcomes (lines_of taken)
AreMade phased shows outcomes taken written reading ReadFault goes =
    AreOutcomesOf phased outcomes (lines_taken taken)
AreMade phased shows outcomes taken written reading WriteFault begins =
    LeadAbove phased outcomes taken written reading begins
AreMade phased shows outcomes taken written reading Memory begins =
    LeadAbove phased outcomes taken written reading begins
AreMade phased shows outcomes taken written reading TooLong (inl halts) = AreOutcomesOf phased outcomes halts.lines
AreMade phased shows outcomes taken written reading TooLong (inr oversteps) =
    AreOutcomesOf phased outcomes (lines_taken taken)
AreMade phased shows outcomes taken written reading NotCertified (inl halts) =
    AreOutcomesOf phased outcomes halts.lines
AreMade phased shows outcomes taken written reading NotCertified (inr ends) =
    OutcomesLeadToEnd phased phased.start outcomes (lines_of taken)

-- what each status says, by the outcomes of the phases that were made. `shows` is what the job shows at the end of the
-- input, where each phase that ended has its outcome
pub record SaysPhased {S O : Type 0} (phased : PhasedBehavior S O) (shows : S → Option O → Type 0) (outcomes : List O)
    (status : Status) (taken written : List ℕ) (reading : Reading) : Type 0 where
  pub says : Says (with_outcomes phased outcomes) (shown_on phased shows) status taken written reading
  pub made : AreMade phased shows outcomes taken written reading status says

-- a command took bytes from its source, wrote bytes to its sink, and made phases with these outcomes
pub record AnswersPhased {S O R K : Type 0} (phased : PhasedBehavior S O) (shows : S → Option O → Type 0)
    (made made' : Option (List O)) (left : R → Option (List ℕ)) (read_faults read_calls : R → ℕ)
    (held : K → Option (List ℕ)) (write_faults write_calls : K → ℕ) (src src' : R) (out out' : K) (status : Status)
    : Type 0 where
  pub outcomes : List O
  pub grows : Grows made made' outcomes
  pub answers : TakesAndWrites left read_faults read_calls held write_faults write_calls src src' out out' status
      (SaysPhased phased shows outcomes)
