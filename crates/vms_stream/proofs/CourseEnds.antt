-- The end of a course.
use Rattle.std.proofs.Common.{◌≡◌, ◌≢◌, ℕ, Bool, true, List, [], ◌++◌, take, drop, take-append-drop, inr, Option, None}
use Rattle.std.proofs.Common.{refl, sym, ap, subst, ◌∙◌, append_assoc, append-nil}
use Rattle.vms_stream.specs.declared.courses.Course.{Course}
use Rattle.vms_stream.specs.declared.statuses.Status.{Status}
use Rattle.vms_stream.specs.declared.statuses.Status.TheVariants.{ReadFault, WriteFault}
use Rattle.vms_stream.specs.Common.{BeginsOutput, Ends, FaultsOfSink, FaultsOfSource, IsLastPiece, Reading, IsCourse}
use Rattle.vms_stream.specs.Common.{lines_judged, Closes, Behavior, MayEnd, state_after, halted, printed, output}
use Rattle.vms_stream.specs.Common.{whole_lines, partial_line}
use Rattle.vms_stream.proofs.BehaviorLaws.{halted-first, output-open, printed-begins}
use Rattle.vms_stream.proofs.TwoPieces.{lines_of-parts}
use Rattle.vms_stream.proofs.StepOutcomes.{begins_at_end, no_piece}
use Rattle.vms_text.specs.Common.{lines_of}

-- after calls of which none failed
pub reads_after : {R : Type 0} (left : R → Option (List ℕ)) (faults calls : R → ℕ) (src src' src'' : R)
    (status : Status)
    → faults src' ≡ faults src
    → FaultsOfSource left faults calls status src' src'' → FaultsOfSource left faults calls status src src''
reads_after left faults calls src src' src'' ReadFault none last = record {
  failing = last.failing;
  none_before = last.none_before ∙ none;
  once = last.once;
  last = last.last;
  none_after = last.none_after;
}
reads_after left faults calls src src' src'' _ none same = same ∙ none

pub writes_after : {K : Type 0} (held : K → Option (List ℕ)) (faults calls : K → ℕ) (out out' out'' : K)
    (status : Status)
    → faults out' ≡ faults out
    → FaultsOfSink held faults calls status out' out'' → FaultsOfSink held faults calls status out out''
writes_after held faults calls out out' out'' WriteFault none last = record {
  failing = last.failing;
  none_before = last.none_before ∙ none;
  once = last.once;
  last = last.last;
  none_after = last.none_after;
}
writes_after held faults calls out out' out'' _ none same = same ∙ none

-- no read failed
pub none_read_fails : {R : Type 0} (left : R → Option (List ℕ)) (faults calls : R → ℕ) (src src' : R) (status : Status)
    → status ≢ ReadFault → faults src' ≡ faults src → FaultsOfSource left faults calls status src src'
none_read_fails left faults calls src src' ReadFault other none = absurd (other refl)
none_read_fails left faults calls src src' _ other none = none

module _ {S : Type 0} (behavior : Behavior S) (shows : S → Type 0) where
  module _ {stands : S → Type 0} (taken written : List ℕ) (course : Course)
      (is : IsCourse behavior stands taken written course)
      (at_end : course.at_end ≡ true) where
    pub none_halts : halted behavior behavior.start (lines_of taken) ≡ None
    none_halts = subst (λ (b : Bool). halted behavior behavior.start (lines_judged b taken) ≡ None) at_end is.none_halts

    pub all_written : written ≡ printed behavior behavior.start (lines_of taken)
    all_written = subst (λ (b : Bool). written ≡ printed behavior behavior.start (lines_judged b taken))
        at_end is.all_written

    abbrev last_piece : (reading : Reading) → reading.last_call taken [] → IsLastPiece behavior taken reading
    last_piece reading by_call = no_piece behavior taken reading by_call is.within
        (halted-first behavior behavior.start (whole_lines taken) (lines_of (partial_line taken ++ []))
        (ap (halted behavior behavior.start) (sym (ap lines_of (sym (append-nil taken)) ∙ lines_of-parts taken []))
        ∙ none_halts))

    -- all was written that the whole lines print
    pub above : (rest : List ℕ) × (written ≡ printed behavior behavior.start (whole_lines taken) ++ rest)
    above =
        let parts : lines_of taken ≡ whole_lines taken ++ lines_of (partial_line taken ++ [])
        = ap lines_of (sym (append-nil taken)) ∙ lines_of-parts taken [] in
        let more = printed-begins behavior behavior.start (whole_lines taken) (lines_of (partial_line taken ++ [])) in
        (more.0, all_written ∙ ap (printed behavior behavior.start) parts ∙ more.1)

    -- there was no memory for the last words
    abbrev pub unended : (reading : Reading) → reading.at_end → reading.last_call taken []
        → BeginsOutput behavior taken (written ++ []) reading
    unended reading ended by_call =
        begins_at_end behavior taken reading (written ++ []) [] ended is.within
        (append-nil (written ++ []) ∙ append-nil written ∙ all_written) (last_piece reading by_call) above.0
        (append-nil written ∙ above.1)

    module _ (ending : Status) (waiting : List ℕ)
        (closes : (s : S) → stands s → Closes behavior shows s ending course.waiting.items waiting) where
      closed : Closes behavior shows (state_after behavior behavior.start (lines_of taken)) ending [] waiting
      closed = subst (λ (out : List ℕ). Closes behavior shows (state_after behavior behavior.start (lines_of taken))
          ending out waiting) is.nothing_waits
          (closes (state_after behavior behavior.start (lines_of taken))
          (subst (λ (b : Bool). stands (state_after behavior behavior.start (lines_judged b taken)))
          at_end is.stands_after))

      pub whole : written ++ waiting ≡ output behavior (lines_of taken)
      whole = ap (λ (front : List ℕ). front ++ waiting) all_written
          ∙ ap (λ (rest : List ℕ). printed behavior behavior.start (lines_of taken) ++ rest) closed.prints
          ∙ sym (output-open behavior (lines_of taken) none_halts)

      -- the last write failed
      abbrev pub unwritten_end : (n : ℕ) (reading : Reading) → reading.at_end → reading.last_call taken []
          → BeginsOutput behavior taken (written ++ take n waiting) reading
      unwritten_end n reading ended by_call = record {
        unwritten = drop n waiting;
        due = inr (
          ended,
          is.within,
          append_assoc written (take n waiting) (drop n waiting)
              ∙ ap (λ (rest : List ℕ). written ++ rest) (take-append-drop n waiting) ∙ whole,
        );
        last_piece = last_piece reading by_call;
        after_above = above.0 ++ take n waiting;
        above_written = ap (λ (front : List ℕ). front ++ take n waiting) above.1
            ∙ append_assoc (printed behavior behavior.start (whole_lines taken)) above.0 (take n waiting);
      }

      -- all was written
      pub ends : {E : Type 0} → E → Ends behavior shows ending taken (written ++ waiting) E
      ends ended = record {
        ended = ended;
        within = is.within;
        none_halts = none_halts;
        ending_is =
            sym closed.ends;
        whole_output = whole;
        shown = closed.shown;
      }

      pub ends_how : MayEnd ending
      ends_how = subst MayEnd (sym closed.ends)
          (behavior.may_end (state_after behavior behavior.start (lines_of taken)))
