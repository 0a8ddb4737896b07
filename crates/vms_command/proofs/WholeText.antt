-- For other crates too: what a command that asks for nothing writes line by line is what is defined by the header and
-- the body.
use Rattle.std.proofs.Common.{◌≡◌, ◌≢◌, ℕ, zero, suc, Bool, true, false, nat_lt, if◌then◌else◌, List, [], ◌∷◌, ◌++◌}
use Rattle.std.proofs.Common.{drop, Option, Some, None, refl, sym, ap, ◌∙◌, append_assoc, append-nil}
use Rattle.std.specs.Prelude.{Result, Ok, Err}
use Rattle.vms_base.specs.declared.headers.Header.{Header}
use Rattle.vms_text.specs.Common.{lines_of}
use Rattle.vms_header.specs.declared.causes.HeaderCause.{HeaderCause}
use Rattle.vms_header.specs.Common.{header_of, Stage, HeadStep, head_line, header_from, on_step, Opening, Goes, Ends}
use Rattle.vms_script.specs.Common.{judged}
use Rattle.vms_stream.specs.declared.statuses.Status.{Status}
use Rattle.vms_stream.specs.declared.statuses.Status.TheVariants.{TooLong}
use Rattle.vms_stream.specs.declared.statuses.Status.TheVariants as statuses
use Rattle.vms_stream.specs.Common.{first_halt, halted, last_words, state_after, printed, printed_from, Behavior}
use Rattle.vms_stream.specs.Common.{plain_bytes, plainly}
use Rattle.vms_command.specs.Common.{TraceCommand, CommandState, following, halted_at, exceeds, after_head}
use Rattle.vms_command.specs.Common.{printed_head, refuses, Heading, Body, most_lines, exceeds_limit, LinesAbove}
use Rattle.vms_command.specs.Common.{come_to, nothing_above, with_judged, WritesTexts, body_text, kept_by_command}
use Rattle.vms_command.specs.Common.{printed_of, text_under}

-- where no limit is exceeded, a line stops the command for what it says alone
unless_beyond : (b : Bool) (halt : Option Status) → (if b then Some TooLong else halt) ≢ Some TooLong
    → (if b then Some TooLong else halt) ≡ halt
unless_beyond true halt within = absurd (within refl)
unless_beyond false halt within = refl

within_at : (n : ℕ) (halt : Option Status) → halted_at n halt ≢ Some TooLong → halted_at n halt ≡ halt
within_at n halt within = unless_beyond (nat_lt most_lines n) halt within

unless_over : (over : Bool) → exceeds over ≢ Some TooLong → exceeds over ≡ None
unless_over true within = absurd (within refl)
unless_over false within = refl

first_within : (first later : Option Status) → first_halt first later ≢ Some TooLong → first ≢ Some TooLong
first_within first later within = λ is. within (ap (λ (halt : Option Status). first_halt halt later) is)

later_within : (first later : Option Status) → first ≡ None → first_halt first later ≢ Some TooLong
    → later ≢ Some TooLong
later_within first later none within = λ is. within (ap (λ (halt : Option Status). first_halt halt later) none ∙ is)

-- what stands after an element
after : (k : ℕ) (all : List (List ℕ)) (line : List ℕ) (lines : List (List ℕ)) → drop k all ≡ line ∷ lines
    → drop (suc k) all ≡ lines
after zero [] line lines is = absurd cc
after zero (first ∷ all) line lines is = cc
after (suc k) [] line lines is = absurd cc
after (suc k) (first ∷ all) line lines is = after k all line lines is

-- what is written from a line on that stops the check so, of what the line prints, what later lines print and the last
-- words
abbrev written_at : Option Status → List ℕ → List ℕ → Option Status → List ℕ → List ℕ
written_at halt line later rest words = printed_from halt line later ++ last_words (first_halt halt rest) words

written-on : (halt : Option Status) (line later : List ℕ) (rest : Option Status) (words : List ℕ) → halt ≡ None
    → written_at halt line later rest words ≡ line ++ (later ++ last_words rest words)
written-on halt line later rest words none =
    ap (λ (at : Option Status). written_at at line later rest words) none
    ∙ append_assoc line later (last_words rest words)

written-refused : (halt : Option Status) (line later : List ℕ) (rest : Option Status) (words : List ℕ)
    → halt ≡ Some statuses.Header → written_at halt line later rest words ≡ line
written-refused halt line later rest words refused = ap (λ (at : Option Status). written_at at line later rest words)
    refused ∙ append-nil line

module _ {K O : Type 0} (command : TraceCommand K O) where
  abbrev behavior : Behavior (CommandState K)
  behavior = plainly (following command)

  -- what is written of lines, and at their end
  abbrev written_from : CommandState K → List (List ℕ) → List ℕ
  written_from s lines = printed behavior s lines ++ last_words (halted behavior s lines)
      (behavior.last (state_after behavior s lines))

  body_written : (n : ℕ) (header : Header) (above : LinesAbove) (kept : K) (lines : List (List ℕ))
      → halted behavior (Body n header above kept) lines ≢ Some TooLong
      → written_from (Body n header above kept) lines
      ≡ printed_of command header n above kept lines ++ plain_bytes (command.last header (come_to header above lines)
      (kept_by_command command header n above kept lines))
  body_written n header above kept [] within = refl
  body_written n header above kept (line ∷ lines) within =
      let result = judged header above.lines line in
      let above' = with_judged result above in
      let kept' = command.next header n above result None kept in
      let text = plain_bytes (command.text header n above result kept) in
      let next = Body (suc n) header above' kept' in
      let over = exceeds_limit above.lines result in
      let here = first_within (halted_at n (exceeds over)) (halted behavior next lines) within in
      let same = within_at n (exceeds over) here in
      let none = same ∙ unless_over over (λ is. here (same ∙ is)) in
      written-on (halted_at n (exceeds over)) text (printed behavior next lines)
      (halted behavior next lines) (behavior.last (state_after behavior next lines)) none
      ∙ ap (λ (rest : List ℕ). text ++ rest)
      (body_written (suc n) header above' kept' lines
      (later_within (halted_at n (exceeds over)) (halted behavior next lines) none within))
      ∙ sym (append_assoc text (printed_of command header (suc n) above' kept' lines)
      (plain_bytes (command.last header (come_to header above' lines)
      (kept_by_command command header (suc n) above' kept' lines))))

  -- what is written from a line of the header on, by what was read of the line
  step_written : (k : ℕ) (stage : Stage) (read : Result HeadStep HeaderCause) (lines all : List (List ℕ))
      → drop (suc k) all ≡ lines
      → first_halt (halted_at (suc k) (refuses read)) (halted behavior (after_head command (suc k) stage read) lines)
      ≢ Some TooLong
      → ((next : Stage) → halted behavior (Heading (suc (suc k)) next) lines ≢ Some TooLong
      → written_from (Heading (suc (suc k)) next) lines ≡ text_under command (header_from (suc (suc k)) next lines) all)
      → written_at (halted_at (suc k) (refuses read)) (printed_head command (suc k) read)
      (printed behavior (after_head command (suc k) stage read) lines)
      (halted behavior (after_head command (suc k) stage read) lines)
      (behavior.last (state_after behavior (after_head command (suc k) stage read) lines))
      ≡ text_under command (on_step (suc k) read (λ next. header_from (suc (suc k)) next lines)) all
  step_written k stage (Ok (Goes next)) lines all is within follows =
      let at : CommandState K = Heading (suc (suc k)) next in
      let none = within_at (suc k) None (first_within (halted_at (suc k) None) (halted behavior at lines) within) in
      written-on (halted_at (suc k) None) [] (printed behavior at lines) (halted behavior at lines)
      (behavior.last (state_after behavior at lines)) none
      ∙ follows next (later_within (halted_at (suc k) None) (halted behavior at lines) none within)
  step_written k stage (Ok (Ends draft)) lines all is within follows =
      let header = header_of draft in
      let at : CommandState K = Body (suc (suc k)) header nothing_above (command.begins header) in
      let none = within_at (suc k) None (first_within (halted_at (suc k) None) (halted behavior at lines) within) in
      written-on (halted_at (suc k) None) (command.opens header) (printed behavior at lines) (halted behavior at lines)
      (behavior.last (state_after behavior at lines)) none
      ∙ ap (λ (bytes : List ℕ). command.opens header ++ bytes)
      (body_written (suc (suc k)) header nothing_above (command.begins header) lines
      (later_within (halted_at (suc k) None) (halted behavior at lines) none within))
      ∙ ap (λ (body : List (List ℕ)). command.opens header ++ body_text command header (suc (suc k)) body) (sym is)
  step_written k stage (Err cause) lines all is within follows =
      let at : CommandState K = Heading (suc k) stage in
      let refused = within_at (suc k) (Some statuses.Header)
      (first_within (halted_at (suc k) (Some statuses.Header)) (halted behavior at lines) within) in
      written-refused (halted_at (suc k) (Some statuses.Header)) (printed_head command (suc k) (Err cause))
      (printed behavior at lines) (halted behavior at lines) (behavior.last (state_after behavior at lines)) refused

  head_written : (k : ℕ) (stage : Stage) (lines all : List (List ℕ)) → drop k all ≡ lines
      → halted behavior (Heading (suc k) stage) lines ≢ Some TooLong
      → written_from (Heading (suc k) stage) lines ≡ text_under command (header_from (suc k) stage lines) all
  head_written k stage [] all is within = refl
  head_written k stage (line ∷ lines) all is within =
      step_written k stage (head_line stage line) lines all (after k all line lines is) within
      (λ next follows. head_written (suc k) next lines all (after k all line lines is) follows)

  pub WritesTexts-holds : WritesTexts command
  WritesTexts-holds text within = head_written 0 Opening (lines_of text) (lines_of text) refl within
