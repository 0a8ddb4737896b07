-- For other crates too: a body of a command that asks for nothing.
use Rattle.std.proofs.Common.{◌≡◌, ℕ, Bool, false, List, ◌++◌, length, Option, None, refl, sym, ap, subst, ◌∙◌}
use Rattle.std.specs.Prelude.{IfOk, OnOk, Result, Ok, Err}
use Rattle.vms_base.specs.declared.headers.Header.{Header}
use Rattle.vms_text.specs.declared.acts.Line.{Line}
use Rattle.vms_text.specs.declared.acts.Line.TheVariants.{Blank, Lane, Boundary}
use Rattle.vms_line.specs.declared.causes.LineCause.{LineCause}
use Rattle.vms_script.specs.Common.{judged}
use Rattle.vms_stream.specs.Common.{TakesAndWrites, Says, AnswersPhased, AskNothing, plain_bytes, plainly, IsAsking}
use Rattle.vms_stream.specs.Common.{Text, waiting}
use Rattle.vms_stream.specs.declared.statuses.Status.{Status}
use Rattle.vms_stream.proofs.Common.{TakesAndWrites-plainly, plain_printed, plain_waits, Grows-nil}
use Rattle.vms_command.specs.Common.{ClosesBody, EndsAfter, GoesPast, IsJudgedAfter, BodyTakes, quietly, shown_at_end}
use Rattle.vms_command.specs.Common.{shown_given, TraceCommand, CommandState, ends_at_judged, ends_phase_at, following}
use Rattle.vms_command.specs.Common.{line_text, phase_at, Heading, Body, LinesAbove, with_judged}

-- a command that makes no phase, and whose texts are plain
pub record IsPlain {K O : Type 0} (command : TraceCommand K O) : Type 0 where
  pub no_phase : (header : Header) (above : LinesAbove) (kept : K) → command.phase_open header above kept ≡ false
  pub plain_text : (header : Header) (n : ℕ) (above : LinesAbove) (said : Result Line LineCause) (kept : K)
      → IsAsking (command.text header n above said kept) → ⊥

no_end : (said : Result Line LineCause) → ends_at_judged false said ≡ false
no_end (Ok Blank) = refl
no_end (Ok (Lane lane act)) = refl
no_end (Ok (Boundary boundary)) = refl
no_end (Err cause) = refl

module _ {K O : Type 0} (command : TraceCommand K O) (is_plain : IsPlain command) where
  none-ends : (header : Header) (above : LinesAbove) (kept : K) (said : Result Line LineCause)
      → ends_at_judged (command.phase_open header above kept) said ≡ false
  none-ends header above kept said =
      ap (λ (phase_open : Bool). ends_at_judged phase_open said) (is_plain.no_phase header above kept) ∙ no_end said

  lines-end_none : (state : CommandState K) (line : List ℕ) → ends_phase_at command state line ≡ false
  lines-end_none (Heading n stage) line = refl
  lines-end_none (Body n header above kept) line = none-ends header above kept (judged header above.lines line)

  lines-plain : (state : CommandState K) (line : List ℕ) → IsAsking (line_text command state line) → ⊥
  lines-plain (Heading n stage) line = λ asks. asks
  lines-plain (Body n header above kept) line =
      is_plain.plain_text header n above (judged header above.lines line) kept

  none-open : (state : CommandState K) → phase_at command state ≡ false
  none-open (Heading n stage) = refl
  none-open (Body n header above kept) = is_plain.no_phase header above kept

  asks_nothing : AskNothing (following command)
  asks_nothing = record { lines = lines-end_none; plain_text = lines-plain; last = none-open }

  -- what it answers
  pub TakesAndWrites-plain : {R S : Type 0} (shows : Header → LinesAbove → K → Option O → Type 0)
      (made made' : Option (List O)) (left : R → Option (List ℕ)) (read_faults read_calls : R → ℕ)
      (held : S → Option (List ℕ)) (write_faults write_calls : S → ℕ) (src src' : R) (out out' : S) (status : Status)
      → AnswersPhased (waiting (following command)) (shown_given shows) made made' left read_faults read_calls held
      write_faults write_calls src src' out out' status
      → TakesAndWrites left read_faults read_calls held write_faults write_calls src src' out out' status
      (Says (plainly (following command)) (shown_at_end (λ header above kept. shows header above kept None)))
  TakesAndWrites-plain shows made made' left read_faults read_calls held write_faults write_calls src src' out out'
      status answers =
      TakesAndWrites-plainly (following command) asks_nothing (shown_given shows) made made' left read_faults read_calls
      held write_faults write_calls src src' out out' status answers

  -- its body takes a line
  module _ {E P : Type 0} (stands stands' : Header → LinesAbove → K → Type 0) (made : Option (List O))
      (header : Header) (n : ℕ) (said : Result Line LineCause) (result : Result (Unit {0}) E) (out out' : List ℕ)
      (does : OnOk result P)
      (goes : P → (above : LinesAbove) (kept : K) → stands header above kept → IsJudgedAfter header above said →
      stands' header (with_judged said above) (command.next header n above said None kept)
      × (out' ≡ out ++ plain_bytes (command.text header n above said kept))) where
    pub BodyTakes-plain : BodyTakes command (quietly stands) (quietly stands') made made header n said result out out'
    BodyTakes-plain = record {
      given = None;
      grows = Grows-nil made;
      may_give = λ above kept waits here judged_is. tt;
      goes = by result does;
    }
      where
        by : (r : Result (Unit {0}) E) → OnOk r P
            → OnOk r ((above : LinesAbove) (kept : K) (waits : List (Text O)) → quietly stands header n above kept waits
            → IsJudgedAfter header above said →
            GoesPast command (quietly stands') header n above kept waits said None out out')
        by (Ok done) does = λ above kept waits here judged_is.
            let text = command.text header n above said kept in
            let past = goes does above kept here.0 judged_is in
            subst (λ (waits : List (Text O)).
            GoesPast command (quietly stands') header n above kept waits said None out out') (sym here.1)
            (record {
              ended = none-ends header above kept said;
              prints = past.1 ∙ ap (λ (bytes : List ℕ). out ++ bytes) (sym (plain_printed text));
              stands_after = (past.0, plain_waits text (is_plain.plain_text header n above said kept));
            })
        by (Err error) does = tt

  -- and closes
  module _ {E : Type 0} (stands : Header → LinesAbove → K → Type 0)
      (shows : Header → LinesAbove → K → Option O → Type 0) (made : Option (List O)) (header : Header)
      (accepted refused : ℕ) (result : Result Status E) (out out' : List ℕ)
      (goes : IfOk result (λ ending. (above : LinesAbove) (kept : K) → stands header above kept
      → accepted ≡ length above.lines → refused ≡ above.refused →
      (ending ≡ command.ends above) × (out' ≡ out ++ plain_bytes (command.last header above kept))
      × shows header above kept None)) where
    pub ClosesBody-plain : ClosesBody command (quietly stands) shows made made header accepted refused result out out'
    ClosesBody-plain = record {
      given = None;
      grows = Grows-nil made;
      may_give = λ n above kept waits here accepts refuses. tt;
      goes = by result goes;
    }
      where
        by : (r : Result Status E)
            → IfOk r (λ ending. (above : LinesAbove) (kept : K) → stands header above kept
            → accepted ≡ length above.lines → refused ≡ above.refused →
            (ending ≡ command.ends above) × (out' ≡ out ++ plain_bytes (command.last header above kept))
            × shows header above kept None)
            → IfOk r (λ ending. (n : ℕ) (above : LinesAbove) (kept : K) (waits : List (Text O))
            → quietly stands header n above kept waits → accepted ≡ length above.lines → refused ≡ above.refused →
            EndsAfter command shows header above kept waits None ending out out')
        by (Ok ending) goes = λ n above kept waits here accepts refuses.
            let last = goes above kept here.0 accepts refuses in
            subst (λ (waits : List (Text O)). EndsAfter command shows header above kept waits None ending out out')
            (sym here.1)
            (record {
              ended = is_plain.no_phase header above kept;
              ends = last.0;
              prints = last.1 ∙ ap (λ (bytes : List ℕ). out ++ bytes)
                  (sym (plain_printed (command.last header above kept)));
              shown = last.2;
            })
        by (Err error) goes = tt
