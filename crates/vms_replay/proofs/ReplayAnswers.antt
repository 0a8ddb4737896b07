-- What each status says of the phases that were made.
use Rattle.std.proofs.Common.{ℕ, inl, inr, List, refl, Option}
use Rattle.vms_world.specs.Common.{Header, lines_of, Item, TableHistories}
use Rattle.vms_command.specs.Common.{shown_given, CommandState, following}
use Rattle.vms_stream.specs.Common.{shown_on, AnswersPhased, AreMade, AreLinesTaken, OutcomesLead, OutcomesLeadTaken}
use Rattle.vms_stream.specs.Common.{Reading, reading_of, SaysPhased, PhasedBehavior, with_outcomes, Waiting, waiting}
use Rattle.vms_stream.specs.Common.{Says, lines_taken}
use Rattle.vms_stream.specs.declared.statuses.Status.{Status}
use Rattle.vms_stream.specs.declared.statuses.Status.TheVariants as statuses
use Rattle.vms_stream.proofs.WrittenOrder.{SaysPhased-in_order}
use Rattle.vms_world.specs.declared.worlds.World.{World}
use Rattle.vms_replay.specs.Common.{PastPhase, AnswersReplayed, AreMadeWith, SaysReplayed, AreFirstTaken, TextsLeadOn}
use Rattle.vms_replay.specs.Common.{Kept, shown_by_replay, replaying}

module _ (Makes : Header → World → List Item → TableHistories → Type 0) (lead : TextsLeadOn Makes)
    (made : List PastPhase)
    (taken written : List ℕ) (reading : Reading) where
  abbrev phased : PhasedBehavior (Waiting (CommandState Kept) PastPhase) PastPhase
  phased = waiting (following (replaying Makes))

  first_of : (lines : List (List ℕ)) → AreLinesTaken taken lines reading.at_end → OutcomesLead phased phased.start made
      lines
      → AreFirstTaken Makes taken reading.at_end made
  first_of lines judged leads = record { lines = lines; judged = judged; first = lead.lines made lines leads }

  first : OutcomesLeadTaken phased made taken reading.at_end → AreFirstTaken Makes taken reading.at_end made
  first (inl leads) = first_of (lines_taken taken) (inl refl) leads
  first (inr (ended, within, leads)) = record {
    lines = lines_of taken;
    judged = inr (ended, within, refl);
    first = lead.to_end made (lines_of taken) leads;
  }

  made-with : (status : Status)
      → (says : Says (with_outcomes phased made) (shown_on phased (shown_given shown_by_replay)) status taken written
      reading) → AreMade phased (shown_given shown_by_replay) made taken written reading status says
      → AreMadeWith Makes status taken reading.at_end made
  made-with statuses.Done ends leads = lead.whole made (lines_of taken) leads ends.none_halts ends.shown
  made-with statuses.Refused ends leads = lead.whole made (lines_of taken) leads ends.none_halts ends.shown
  made-with statuses.Words says leads = absurd says
  made-with statuses.Header (inl halts) of_lines = first_of halts.lines halts.judged of_lines.0
  made-with statuses.Header (inr ends) leads = first (inr (ends.ended, ends.within, leads))
  made-with statuses.ReadFault goes of_lines = lead.lines made (lines_taken taken) of_lines.0
  made-with statuses.WriteFault begins led = first led.leads
  made-with statuses.Memory begins led = first led.leads
  made-with statuses.TooLong (inl halts) of_lines = first_of halts.lines halts.judged of_lines.0
  made-with statuses.TooLong (inr oversteps) of_lines = first_of (lines_taken taken) (inl refl) of_lines.0
  made-with statuses.NotCertified (inl halts) of_lines = first_of halts.lines halts.judged of_lines.0
  made-with statuses.NotCertified (inr ends) leads = first (inr (ends.ended, ends.within, leads))

  pub SaysReplayed-led : (status : Status)
      → SaysPhased phased (shown_given shown_by_replay) made status taken written reading
      → SaysReplayed Makes made status taken written reading
  SaysReplayed-led status says = record {
    says = says;
    phases = made-with status says.says says.made;
    texts = SaysPhased-in_order (following (replaying Makes)) (shown_given shown_by_replay) made taken written reading
        status says;
  }

-- so it is with what a replay answers
pub AnswersReplayed-led : {S K : Type 0} (Makes : Header → World → List Item → TableHistories → Type 0)
    → TextsLeadOn Makes → (kept kept' : Option (List PastPhase)) (left : S → Option (List ℕ))
    (read_faults read_calls : S → ℕ)
    (held : K → Option (List ℕ)) (write_faults write_calls : K → ℕ) (src src' : S) (out out' : K) (status : Status)
    → AnswersPhased (waiting (following (replaying Makes))) (shown_given shown_by_replay) kept kept' left
    read_faults read_calls held
    write_faults write_calls src src' out out' status
    → AnswersReplayed Makes kept kept' left read_faults read_calls held write_faults write_calls src src' out out'
    status
AnswersReplayed-led Makes lead kept kept' left read_faults read_calls held write_faults write_calls src src' out out'
    status phased =
    let answers = phased.answers in
    record {
      made = phased.outcomes;
      grows = phased.grows;
      answers = record {
        taken = answers.taken;
        written = answers.written;
        consumes = answers.consumes;
        appends = answers.appends;
        answer = SaysReplayed-led Makes lead phased.outcomes answers.taken answers.written
            (reading_of left read_calls src src') status
            answers.answer;
        reads = answers.reads;
        writes = answers.writes;
      };
    }
