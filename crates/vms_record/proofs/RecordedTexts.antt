-- What was recorded of a trace is its recorded text.
use Rattle.std.proofs.Common.{◌≡◌, ◌⊎◌, ◌∙◌, ℕ, List, ◌++◌, Option, Some, append_assoc, ap, inl, inr, subst, sym}
use Rattle.std.proofs.lemmas.Option.{same_Some}
use Rattle.std.specs.Io.KnownBytes.{IsAtEnd}
use Rattle.vms_core.specs.Pages.{History}
use Rattle.vms_record.specs.Answers.{FollowsCopy, SaysRecord}
use Rattle.vms_record.specs.Histories.{GoesOnWith, IsHistoryOf}
use Rattle.vms_record.specs.Laws.{IsRecorded, RecordsItsText}
use Rattle.vms_recorded.specs.Histories.{IsRecordedHistory, history_lines}
use Rattle.vms_recorded_texts.specs.RecordedTexts.{IsRecordingOf, recorded_text}
use Rattle.vms_stream.specs.declared.statuses.Status.{Status}
use Rattle.vms_stream.specs.declared.statuses.Status.TheVariants.{Done, Refused}
use Rattle.vms_stream.specs.declared.statuses.Status.TheVariants as statuses
use Rattle.vms_world.specs.Common.{lines_of, Header, Segment}
use Rattle.vms_trace_parts.specs.Common.{ArePartsOf, CopiesAll, SaysCopied, TracePart, copied_text}
use Rattle.vms_trace_parts.proofs.Common.{header_in-begin}
use Rattle.vms_written_lines.specs.Spelling.{history_line}

-- the copy came to the end of the trace, and the history was written
module _ (parts : List TracePart) (history : List ℕ) where
  goes_on-whole : (ended status : Status) → IsRecorded status → GoesOnWith parts ended status history
      → (ended ≡ status) × IsHistoryOf parts history
  goes_on-whole ended status whole (inl (is, wrote)) = (sym is, wrote)
  goes_on-whole ended status whole (inr (inl is, begins)) = absurd (subst IsRecorded is whole)
  goes_on-whole ended status whole (inr (inr is, begins)) = absurd (subst IsRecorded is whole)

  follows-whole : (ended status : Status) → IsRecorded status → FollowsCopy parts ended status history
      → (ended ≡ status) × IsHistoryOf parts history
  follows-whole Done status whole follows = goes_on-whole Done status whole follows
  follows-whole Refused status whole follows = goes_on-whole Refused status whole follows
  follows-whole statuses.Words status whole (is, none) = absurd (subst IsRecorded is whole)
  follows-whole statuses.Header status whole (is, none) = absurd (subst IsRecorded is whole)
  follows-whole statuses.ReadFault status whole (is, none) = absurd (subst IsRecorded is whole)
  follows-whole statuses.WriteFault status whole (is, none) = absurd (subst IsRecorded is whole)
  follows-whole statuses.Memory status whole (is, none) = absurd (subst IsRecorded is whole)
  follows-whole statuses.TooLong status whole (is, none) = absurd (subst IsRecorded is whole)
  follows-whole statuses.NotCertified status whole (is, none) = absurd (subst IsRecorded is whole)

module _ (parts : List TracePart) (taken copied history : List ℕ) (at_end : Type 0) where
  abbrev Recorded : Type 0
  Recorded = (hs : List History) × IsRecordingOf (lines_of taken) hs
      × (copied ++ history ≡ recorded_text (lines_of taken) hs)

  recorded-parts : (refused : ℕ) → ArePartsOf (lines_of taken) parts refused → copied ≡ copied_text (lines_of taken)
      → IsHistoryOf parts history → Recorded
  recorded-parts refused are copy wrote =
      let header : wrote.header ≡ are.header =
      same_Some wrote.header are.header (sym wrote.header_is ∙ header_in-begin are.header parts are.begin) in (
        wrote.hs,
        record {
          header = are.header;
          count = are.count;
          header_is = are.header_is;
          recorded = subst (λ (segments : List Segment). IsRecordedHistory are.header segments wrote.hs) are.segments
              (subst (λ (h : Header). IsRecordedHistory h _ wrote.hs) header wrote.recorded);
        },
        subst (λ (text : List ℕ). copied ++ text ≡ recorded_text (lines_of taken) wrote.hs) (sym wrote.text_is)
            (ap (λ (text : List ℕ). text ++ (history_line ++ history_lines wrote.hs)) copy
            ∙ sym (append_assoc (copied_text (lines_of taken)) history_line (history_lines wrote.hs))),
      )

  recorded-copy : (status : Status) → IsRecorded status → SaysCopied parts status taken copied at_end
      → IsHistoryOf parts history → Recorded
  recorded-copy Done whole says wrote = recorded-parts says.refusals says.parts_are says.written_is wrote
  recorded-copy Refused whole says wrote = recorded-parts says.refusals says.parts_are says.written_is wrote
  recorded-copy _ whole says wrote = absurd whole

pub RecordsItsText-is : {S : Type 0} (left : S → Option (List ℕ)) (calls : S → ℕ) → RecordsItsText left calls
RecordsItsText-is left calls status taken written src src' whole says =
    let followed = follows-whole says.parts says.history says.ended status whole says.follows in
    let copies = subst (λ (s : Status). SaysCopied says.parts s taken says.copied (IsAtEnd (left src')))
    followed.0 says.by_text in
    let recorded = recorded-copy says.parts taken says.copied says.history (IsAtEnd (left src')) status whole copies
    followed.1 in
    (recorded.0, recorded.1, says.written_is ∙ recorded.2)
