-- What each status says of the phases that were made.
use Rattle.std.proofs.Common.{ℕ, inl, inr, List, refl, Option}
use Rattle.vms_stream.specs.Common.{shown_on, AnswersPhased, AreMade, AreLinesTaken, OutcomesLead, OutcomesLeadTaken}
use Rattle.vms_stream.specs.Common.{Reading, reading_of, SaysPhased, PhasedBehavior, with_outcomes, Waiting, waiting}
use Rattle.vms_stream.specs.Common.{Says, lines_taken}
use Rattle.vms_stream.specs.declared.statuses.Status.{Status}
use Rattle.vms_stream.specs.declared.statuses.Status.TheVariants as statuses
use Rattle.vms_stream.proofs.WrittenOrder.{SaysPhased-in_order}
use Rattle.vms_text.specs.Common.{lines_of}
use Rattle.vms_groups.specs.GroupAnswers.{AnswersWith, AreMadeWith}
use Rattle.vms_groups.specs.Common.{SaysGroups, groups_texts, shown_by_groups, AreFirstTaken, PastGroupPhase}
use Rattle.vms_groups.specs.GroupTexts.{GroupsState}
use Rattle.vms_groups.specs.Laws.{TextsLeadOn}

module _ (lead : TextsLeadOn) (made : List PastGroupPhase) (taken written : List ℕ) (reading : Reading) where
  abbrev phased : PhasedBehavior (Waiting GroupsState PastGroupPhase) PastGroupPhase
  phased = waiting groups_texts

  first_of : (lines : List (List ℕ)) → AreLinesTaken taken lines reading.at_end → OutcomesLead phased phased.start made
      lines
      → AreFirstTaken taken reading.at_end made
  first_of lines judged leads = record { lines = lines; judged = judged; first = lead.lines made lines leads }

  first : OutcomesLeadTaken phased made taken reading.at_end → AreFirstTaken taken reading.at_end made
  first (inl leads) = first_of (lines_taken taken) (inl refl) leads
  first (inr (ended, within, leads)) = record {
    lines = lines_of taken;
    judged = inr (ended, within, refl);
    first = lead.to_end made (lines_of taken) leads;
  }

  made-with : (status : Status)
      → (says : Says (with_outcomes phased made) (shown_on phased shown_by_groups) status taken written reading)
      → AreMade phased shown_by_groups made taken written reading status says → AreMadeWith status taken reading.at_end
      made
  made-with statuses.Done ends leads = lead.whole made (lines_of taken) leads ends.none_halts ends.shown
  made-with statuses.Refused ends leads = lead.whole made (lines_of taken) leads ends.none_halts ends.shown
  made-with statuses.Words says leads = absurd says
  made-with statuses.Header (inl halts) of_lines = first_of halts.lines halts.judged of_lines.0
  made-with statuses.Header (inr ends) leads = first (inr (ends.ended, ends.within, leads))
  made-with statuses.ReadFault goes of_lines = lead.lines made (lines_taken taken) of_lines.0
  made-with statuses.WriteFault begins led = first led.leads
  made-with statuses.Memory begins led = first led.leads
  made-with statuses.TooLong (inl halts) of_lines = first_of halts.lines halts.judged of_lines.0
  made-with statuses.TooLong (inr oversteps) of_lines = first_of (lines_taken taken) (inl refl) of_lines.0
  made-with statuses.NotCertified (inl halts) of_lines = first_of halts.lines halts.judged of_lines.0
  made-with statuses.NotCertified (inr ends) leads = first (inr (ends.ended, ends.within, leads))

  SaysGroups-led : (status : Status) → SaysPhased phased shown_by_groups made status taken written reading
      → SaysGroups made status taken written reading
  SaysGroups-led status says = record {
    says = says;
    phases = made-with status says.says says.made;
    texts = SaysPhased-in_order groups_texts shown_by_groups made taken written reading status says;
  }

-- so it is with what the command answers
pub AnswersWith-led : {S K : Type 0} → TextsLeadOn → (kept kept' : Option (List PastGroupPhase))
    (left : S → Option (List ℕ)) (read_faults read_calls : S → ℕ) (held : K → Option (List ℕ))
    (write_faults write_calls : K → ℕ)
    (src src' : S) (out out' : K) (status : Status)
    → AnswersPhased (waiting groups_texts) shown_by_groups kept kept' left read_faults read_calls held write_faults
    write_calls src src' out out' status
    → AnswersWith kept kept' left read_faults read_calls held write_faults write_calls src src' out out' status
AnswersWith-led lead kept kept' left read_faults read_calls held write_faults write_calls src src' out out' status
    phased =
    let answers = phased.answers in
    record {
      made = phased.outcomes;
      grows = phased.grows;
      answers = record {
        taken = answers.taken;
        written = answers.written;
        consumes = answers.consumes;
        appends = answers.appends;
        answer = SaysGroups-led lead phased.outcomes answers.taken answers.written (reading_of left read_calls src src')
            status answers.answer;
        reads = answers.reads;
        writes = answers.writes;
      };
    }
