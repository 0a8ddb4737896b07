-- What each status of `groups` says.
use Rattle.std.specs.Prelude.{◌≡◌, ℕ, List, ◌++◌, Option}
use Rattle.vms_stream.specs.Common.{Grows, Reading, SaysPhased, TakesAndWrites, WritesTextsOf, lines_taken, waiting}
use Rattle.vms_stream.specs.declared.statuses.Status.{Status}
use Rattle.vms_stream.specs.declared.statuses.Status.TheVariants.{Done, Refused, ReadFault}
use Rattle.vms_text.specs.Common.{lines_of}
use Rattle.vms_groups.specs.GroupTexts.{groups_texts, shown_by_groups}
use Rattle.vms_groups.specs.MadePhases.{AreAllPhases, AreFirstPhases, AreFirstTaken}
use Rattle.vms_groups.specs.PastPhases.{PastGroupPhase}

-- which phases were made: with status 0 and 3 all of the input, with status 4 the first ones of the whole lines that
-- were taken, and with every other status the first ones of the lines that were taken
abbrev pub AreMadeWith : Status → List ℕ → Type 0 → List PastGroupPhase → Type 0
AreMadeWith Done taken at_end made = AreAllPhases (lines_of taken) made
AreMadeWith Refused taken at_end made = AreAllPhases (lines_of taken) made
AreMadeWith ReadFault taken at_end made = AreFirstPhases (lines_taken taken) made
AreMadeWith _ taken at_end made = AreFirstTaken taken at_end made

-- what a status says: what was taken and written, which is the output of `groups` with these phases, which phases these
-- are, and that the texts of the lines were written in the order of the lines.
-- For every trace of groups, each phase of `groups` is one legal history of its lanes' lines. At every moment of it
-- each change is counted once: the value of a group, what is pending in its subtree and what callers carry there add up
-- to what the phase began with and all changes of the subtree since. Every value that a line prints is that history's,
-- and every total that a report prints is the plain sum.
pub record SaysGroups (made : List PastGroupPhase) (status : Status) (taken written : List ℕ) (reading : Reading)
    : Type 0 where
  pub says : SaysPhased (waiting groups_texts) shown_by_groups made status taken written reading
  pub phases : AreMadeWith status taken reading.at_end made
  pub texts : WritesTextsOf groups_texts made status taken written reading.at_end

-- the command took bytes from its source, wrote bytes to its sink, and made phases, by which what its engine keeps grew
pub record AnswersWith {S K : Type 0} (kept kept' : Option (List PastGroupPhase)) (left : S → Option (List ℕ))
    (read_faults read_calls : S → ℕ) (held : K → Option (List ℕ)) (write_faults write_calls : K → ℕ) (src src' : S)
    (out out' : K)
    (status : Status) : Type 0 where
  pub made : List PastGroupPhase
  pub grows : Grows kept kept' made
  pub answers : TakesAndWrites left read_faults read_calls held write_faults write_calls src src' out out' status
      (SaysGroups made)

-- the same where the phases are appended to those that were made before
pub record AnswersGroups {S K : Type 0} (old new : List PastGroupPhase) (left : S → Option (List ℕ))
    (read_faults read_calls : S → ℕ) (held : K → Option (List ℕ)) (write_faults write_calls : K → ℕ) (src src' : S)
    (out out' : K)
    (status : Status) : Type 0 where
  pub made : List PastGroupPhase
  pub grows : new ≡ old ++ made
  pub answers : TakesAndWrites left read_faults read_calls held write_faults write_calls src src' out out' status
      (SaysGroups made)
