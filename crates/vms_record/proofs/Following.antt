-- What the command answers, from what the copy of the trace answered and what followed it.
use Rattle.std.proofs.Common.{◌≡◌, ◌≢◌, ◌⊎◌, ◌∙◌, ℕ, List, [], ◌++◌, Option, Some, append-nil, inl, inr, refl, sym, ap}
use Rattle.std.proofs.Common.{subst}
use Rattle.std.proofs.lemmas.Option.{same_Some}
use Rattle.std.specs.Io.KnownBytes.{Appends, IsAtEnd}
use Rattle.std.proofs.KnownBytes.{Appends-nil, Appends-trans}
use Rattle.std.specs.Prelude.{Err, Ok, Result}
use Rattle.vms_command.specs.Common.{following, shown_given}
use Rattle.vms_stream.specs.Common.{AnswersPhased, CountsWrites, FaultsOfSink, FaultsOfSource, SaysPhased}
use Rattle.vms_stream.specs.Common.{TakesAndWrites, reading_of, waiting}
use Rattle.vms_stream.specs.declared.statuses.Status.{Status}
use Rattle.vms_stream.specs.declared.statuses.Status.TheVariants.{Done, Memory, ReadFault, Refused, WriteFault}
use Rattle.vms_stream.specs.declared.statuses.Status.TheVariants as statuses
use Rattle.vms_trace_parts.specs.Common.{ArePartsOf, CopiesTexts, SaysCopied, TracePart, copying, shown_by_copy}
use Rattle.vms_trace_parts.proofs.Common.{header_in-begin}
use Rattle.vms_world.specs.Common.{lines_of}
use Rattle.vms_record.specs.Answers.{FollowsCopy, SaysRecord}
use Rattle.vms_record.specs.Histories.{AfterCopy, AreParts, GoesOnWith, MayFollow, RecordsAfter}

-- no read failed where the copy came to the end of the trace
read-on : {S : Type 0} (left : S → Option (List ℕ)) (faults calls : S → ℕ) (src src' : S) (status : Status)
    → status ≢ ReadFault → faults src' ≡ faults src → FaultsOfSource left faults calls status src src'
read-on left faults calls src src' ReadFault none same = absurd (none refl)
read-on left faults calls src src' _ none same = same

goes_on-reads : (parts : List TracePart) (ended status : Status) (history : List ℕ) → ended ≢ ReadFault
    → GoesOnWith parts ended status history → status ≢ ReadFault
goes_on-reads parts ended status history none (inl (is, recorded)) = λ read. none (sym is ∙ read)
goes_on-reads parts ended status history none (inr (inl is, begins)) =
    λ read. let clash : Memory ≡ ReadFault = sym is ∙ read in absurd cc
goes_on-reads parts ended status history none (inr (inr is, begins)) =
    λ read. let clash : WriteFault ≡ ReadFault = sym is ∙ read in absurd cc

-- a fault of the sink after writes that didn't fail
pub write-on : {K : Type 0} (held : K → Option (List ℕ)) (faults calls : K → ℕ) (out mid out' : K) (status : Status)
    → faults mid ≡ faults out → FaultsOfSink held faults calls status mid out' → FaultsOfSink held faults calls status
    out out'
write-on held faults calls out mid out' WriteFault same last = record {
  failing = last.failing;
  none_before = last.none_before ∙ same;
  once = last.once;
  last = last.last;
  none_after = last.none_after;
}
write-on held faults calls out mid out' _ same counts = counts ∙ same

pub counts-on : {A K : Type 0} (held : K → Option (List ℕ)) (faults calls : K → ℕ) (out mid out' : K)
    (result : Result A Status) → faults mid ≡ faults out → CountsWrites held faults calls result mid out'
    → CountsWrites held faults calls result out out'
counts-on held faults calls out mid out' (Ok value) same counts = counts ∙ same
counts-on held faults calls out mid out' (Err status) same counts =
    write-on held faults calls out mid out' status same counts

-- no write failed, and the copy came to the end of the trace
pub unfailed-writes : {K : Type 0} (held : K → Option (List ℕ)) (faults calls : K → ℕ) (ended : Status) (out out' : K)
    → ended ≢ WriteFault → faults out' ≡ faults out → FaultsOfSink held faults calls ended out out'
unfailed-writes held faults calls WriteFault out out' none same = absurd (none refl)
unfailed-writes held faults calls _ out out' none same = same

-- the parts of a trace that was copied to its end
are-parts : (lines : List (List ℕ)) (parts : List TracePart) (refused : ℕ) → ArePartsOf lines parts refused
    → AreParts parts
are-parts lines parts refused are = record {
  header = are.header;
  header_is = header_in-begin are.header parts are.begin;
  valid = are.valid;
  stand = are.stand;
}

may-follow : (parts : List TracePart) (ended : Status) (taken written : List ℕ) (at_end : Type 0)
    → SaysCopied parts ended taken written at_end → MayFollow ended parts
may-follow parts Done taken written at_end says = are-parts (lines_of taken) parts says.refusals says.parts_are
may-follow parts Refused taken written at_end says = are-parts (lines_of taken) parts says.refusals says.parts_are
may-follow parts _ taken written at_end says = tt

module _ {S K : Type 0} (left : S → Option (List ℕ)) (read_faults read_calls : S → ℕ) (held : K → Option (List ℕ))
    (write_faults write_calls : K → ℕ) (src src' : S) (out : K) (parts : List TracePart)
    (copies : CopiesTexts left read_calls) where
  abbrev Copies : K → Status → Type 0
  Copies mid ended = AnswersPhased (waiting (following copying)) (shown_given shown_by_copy) (Some []) (Some parts) left
      read_faults read_calls held write_faults write_calls src src' out mid ended

  abbrev Goal : K → Status → Type 0
  Goal out' status =
      TakesAndWrites left read_faults read_calls held write_faults write_calls src src' out out' status SaysRecord

  module _ (mid : K) (ended : Status) (copied : Copies mid ended) where
    says : SaysPhased (waiting (following copying)) (shown_given shown_by_copy) parts ended copied.answers.taken
        copied.answers.written (reading_of left read_calls src src')
    says =
        subst (λ (outcomes : List TracePart). SaysPhased (waiting (following copying)) (shown_given shown_by_copy)
        outcomes ended copied.answers.taken copied.answers.written (reading_of left read_calls src src'))
        (sym (same_Some parts copied.outcomes copied.grows)) copied.answers.answer

    pub MayFollow-copied : MayFollow ended parts
    MayFollow-copied =
        may-follow parts ended copied.answers.taken copied.answers.written (IsAtEnd (left src'))
        (copies parts ended copied.answers.taken copied.answers.written src src' says)

    -- what followed
    joined : (out' : K) (status : Status) (history : List ℕ) → Appends (held mid) (held out') history
        → FollowsCopy parts ended status history → FaultsOfSource left read_faults read_calls status src src'
        → FaultsOfSink held write_faults write_calls status out out' → Goal out' status
    joined out' status history appends follows reads writes = record {
      taken = copied.answers.taken;
      written = copied.answers.written ++ history;
      consumes = copied.answers.consumes;
      appends = Appends-trans (held out) (held mid) (held out') copied.answers.written history copied.answers.appends
          appends;
      answer = record {
        parts = parts;
        ended = ended;
        copied = copied.answers.written;
        history = history;
        written_is = refl;
        line_by_line = says;
        by_text = copies parts ended copied.answers.taken copied.answers.written src src' says;
        follows = follows;
      };
      reads = reads;
      writes = writes;
    }

    -- the copy didn't come to the end, and nothing followed
    stopped : (out' : K) (status : Status) → FollowsCopy parts ended ended [] → out' ≡ mid → status ≡ ended
        → Goal out' status
    stopped out' status follows same is =
        subst (λ (s : Status). Goal out' s) (sym is)
        (subst (λ (o : K). Goal o ended) (sym same)
        (joined mid ended [] (Appends-nil (held mid)) follows copied.answers.reads copied.answers.writes))

  pub SaysRecord-after : (mid out' : K) (ended status : Status) → Copies mid ended
      → AfterCopy held write_faults write_calls ended parts mid out' status → Goal out' status
  SaysRecord-after mid out' Done status copied after =
      joined mid Done copied out' status after.history after.appends after.goes_on
      (read-on left read_faults read_calls src src' status
      (goes_on-reads parts Done status after.history (λ (is : Done ≡ ReadFault). cc) after.goes_on)
      copied.answers.reads)
      (write-on held write_faults write_calls out mid out' status copied.answers.writes after.writes)
  SaysRecord-after mid out' Refused status copied after =
      joined mid Refused copied out' status after.history after.appends after.goes_on
      (read-on left read_faults read_calls src src' status
      (goes_on-reads parts Refused status after.history (λ (is : Refused ≡ ReadFault). cc) after.goes_on)
      copied.answers.reads)
      (write-on held write_faults write_calls out mid out' status copied.answers.writes after.writes)
  SaysRecord-after mid out' statuses.Words status copied (same, is) =
      stopped mid statuses.Words copied out' status (refl, refl) same is
  SaysRecord-after mid out' statuses.Header status copied (same, is) =
      stopped mid statuses.Header copied out' status (refl, refl) same is
  SaysRecord-after mid out' ReadFault status copied (same, is) =
      stopped mid ReadFault copied out' status (refl, refl) same is
  SaysRecord-after mid out' WriteFault status copied (same, is) =
      stopped mid WriteFault copied out' status (refl, refl) same is
  SaysRecord-after mid out' Memory status copied (same, is) =
      stopped mid Memory copied out' status (refl, refl) same is
  SaysRecord-after mid out' statuses.TooLong status copied (same, is) =
      stopped mid statuses.TooLong copied out' status (refl, refl) same is
  SaysRecord-after mid out' statuses.NotCertified status copied (same, is) =
      stopped mid statuses.NotCertified copied out' status (refl, refl) same is
