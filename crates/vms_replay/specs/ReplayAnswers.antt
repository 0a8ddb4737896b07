-- What a replay says with each status, by the phases that were made.
use Rattle.std.specs.Prelude.{ℕ, List, Option}
use Rattle.vms_world.specs.Common.{Header, lines_of, Item, TableHistories}
use Rattle.vms_command.specs.Common.{shown_given, following}
use Rattle.vms_stream.specs.Common.{Grows, Reading, SaysPhased, waiting, TakesAndWrites, WritesTextsOf, lines_taken}
use Rattle.vms_stream.specs.declared.statuses.Status.{Status}
use Rattle.vms_stream.specs.declared.statuses.Status.TheVariants.{Done, Refused, ReadFault}
use Rattle.vms_world.specs.declared.worlds.World.{World}
use Rattle.vms_replay.specs.MadePhases.{PastPhase}
use Rattle.vms_replay.specs.ReplayedTexts.{AreAllOf, AreFirstOf, AreFirstTaken}
use Rattle.vms_replay.specs.Replaying.{shown_by_replay, replaying}

-- which phases were made: with status 0 and 3 all of the input, with status 4 the first ones of the whole lines that
-- were taken, and with every other status the first ones of the lines that were taken
abbrev pub AreMadeWith : (Header → World → List Item → TableHistories → Type 0) → Status → List ℕ → Type 0
    → List PastPhase → Type 0
AreMadeWith Makes Done taken at_end made = AreAllOf Makes (lines_of taken) made
AreMadeWith Makes Refused taken at_end made = AreAllOf Makes (lines_of taken) made
AreMadeWith Makes ReadFault taken at_end made = AreFirstOf Makes (lines_taken taken) made
AreMadeWith Makes _ taken at_end made = AreFirstTaken Makes taken at_end made

-- what a status says: what was taken and written, which is the output of a replay with these phases, that the phases
-- lead through the segments of the text, each by the kernel's rules and with all laws at each of its moments, and that
-- the texts of the lines were written in the order of the lines
pub record SaysReplayed (Makes : Header → World → List Item → TableHistories → Type 0) (made : List PastPhase)
    (status : Status) (taken written : List ℕ) (reading : Reading) : Type 0 where
  pub says : SaysPhased (waiting (following (replaying Makes))) (shown_given shown_by_replay) made status taken written
      reading
  pub phases : AreMadeWith Makes status taken reading.at_end made
  pub texts : WritesTextsOf (following (replaying Makes)) made status taken written reading.at_end

-- a replay took bytes from its source, wrote bytes to its sink, and made phases, of which `Makes` says which histories
-- they may have. What its engine keeps grew by them
pub record AnswersReplayed {S K : Type 0} (Makes : Header → World → List Item → TableHistories → Type 0)
    (kept kept' : Option (List PastPhase)) (left : S → Option (List ℕ)) (read_faults read_calls : S → ℕ)
    (held : K → Option (List ℕ)) (write_faults write_calls : K → ℕ) (src src' : S) (out out' : K) (status : Status)
    : Type 0 where
  pub made : List PastPhase
  pub grows : Grows kept kept' made
  pub answers : TakesAndWrites left read_faults read_calls held write_faults write_calls src src' out out' status
      (SaysReplayed Makes made)
