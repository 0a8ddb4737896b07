-- What the body of a command does at its lines and at its end.
use Rattle.std.specs.Prelude.{◌≡◌, ℕ, ◌≤◌, suc, List, [], ◌++◌, length, Option, is_some, Result, IfOk, OnOk}
use Rattle.vms_base.specs.declared.headers.Header.{Header}
use Rattle.vms_text.specs.declared.acts.Line.{Line}
use Rattle.vms_line.specs.declared.causes.LineCause.{LineCause}
use Rattle.vms_script.specs.Common.{judged}
use Rattle.vms_stream.specs.declared.statuses.Status.{Status}
use Rattle.vms_stream.specs.Common.{Grows, MayGive, at_most_one, Text, Waiting, printed_with, waits_after}
use Rattle.vms_command.specs.Commands.{TraceCommand, CommandState, ends_at_judged}
use Rattle.vms_command.specs.Commands.CommandState.{Heading, Body}
use Rattle.vms_command.specs.Limits.{most_lines}
use Rattle.vms_command.specs.Lines.{LinesAbove, with_judged}

-- what is judged of some line of a body after lines that came to this
abbrev pub IsJudgedAfter : Header → LinesAbove → Result Line LineCause → Type 0
IsJudgedAfter header above result = (text : List ℕ) × (result ≡ judged header above.lines text)

-- a body before line n, after some lines, and what is judged of it. These texts wait for the outcome of the open phase
pub record SomeLine {K O : Type 0} (stands : Header → ℕ → LinesAbove → K → List (Text O) → Type 0) (header : Header)
    (n : ℕ) (result : Result Line LineCause) : Type 0 where
  pub above : LinesAbove
  pub kept : K
  pub waits : List (Text O)
  pub after : stands header n above kept waits
  pub judged : IsJudgedAfter header above result

-- a body of which no text waits
abbrev pub quietly : {K O : Type 0} → (Header → LinesAbove → K → Type 0) → Header → ℕ → LinesAbove → K
    → List (Text O) → Type 0
quietly stands header n above kept waits = stands header above kept × (waits ≡ [])

-- a body took line n, of which this was judged, after lines that came to this. A phase that ends there was given its
-- outcome
pub record GoesPast {K O : Type 0} (command : TraceCommand K O)
    (stands' : Header → ℕ → LinesAbove → K → List (Text O) → Type 0)
    (header : Header) (n : ℕ) (above : LinesAbove) (kept : K) (waits : List (Text O))
    (said : Result Line LineCause) (given : Option O) (out out' : List ℕ) : Type 0 where
  pub ended : ends_at_judged (command.phase_open header above kept) said ≡ is_some given
  pub prints : out' ≡ out ++ printed_with waits (command.text header n above said kept) given
  pub stands_after : stands' header (suc n) (with_judged said above) (command.next header n above said given kept)
      (waits_after waits (command.text header n above said kept) given)

-- a body takes line n, of which this was judged, whatever lines it stands after. Whether it fails or not, what was made
-- before grows by the outcome that is given
pub record BodyTakes {K O E : Type 0} (command : TraceCommand K O)
    (stands stands' : Header → ℕ → LinesAbove → K → List (Text O) → Type 0) (made made' : Option (List O))
    (header : Header) (n : ℕ) (said : Result Line LineCause) (result : Result (Unit {0}) E) (out out' : List ℕ)
    : Type 0 where
  pub given : Option O
  pub grows : Grows made made' (at_most_one given)
  pub may_give : (above : LinesAbove) (kept : K) (waits : List (Text O)) → stands header n above kept waits
      → IsJudgedAfter header above said →
      MayGive (ends_at_judged (command.phase_open header above kept) said) (command.Allows header above kept) given
  pub goes : OnOk result ((above : LinesAbove) (kept : K) (waits : List (Text O)) → stands header n above kept waits
      → IsJudgedAfter header above said →
      GoesPast command stands' header n above kept waits said given out out')

-- a body after all lines of a trace, with how many of them count and how many were refused
pub record SomeEnd {K O : Type 0} (stands : Header → ℕ → LinesAbove → K → List (Text O) → Type 0) (header : Header)
    (accepted refused : ℕ) : Type 0 where
  pub number : ℕ
  pub most : number ≤ suc most_lines
  pub above : LinesAbove
  pub kept : K
  pub waits : List (Text O)
  pub after : stands header number above kept waits
  pub accepts : accepted ≡ length above.lines
  pub refuses : refused ≡ above.refused

-- a body ended its trace, and what it shows of it. A phase that was open was given its outcome
pub record EndsAfter {K O : Type 0} (command : TraceCommand K O) (shows : Header → LinesAbove → K → Option O → Type 0)
    (header : Header) (above : LinesAbove) (kept : K) (waits : List (Text O)) (given : Option O) (ending : Status)
    (out out' : List ℕ) : Type 0 where
  pub ended : command.phase_open header above kept ≡ is_some given
  pub ends : ending ≡ command.ends above
  pub prints : out' ≡ out ++ printed_with waits (command.last header above kept) given
  pub shown : shows header above kept given

-- a body ends its trace, whatever lines it stands after. Whether it fails or not, what was made before grows by the
-- outcome that is given
pub record ClosesBody {K O E : Type 0} (command : TraceCommand K O)
    (stands : Header → ℕ → LinesAbove → K → List (Text O) → Type 0)
    (shows : Header → LinesAbove → K → Option O → Type 0) (made made' : Option (List O)) (header : Header)
    (accepted refused : ℕ) (result : Result Status E) (out out' : List ℕ) : Type 0 where
  pub given : Option O
  pub grows : Grows made made' (at_most_one given)
  pub may_give : (n : ℕ) (above : LinesAbove) (kept : K) (waits : List (Text O)) → stands header n above kept waits
      → accepted ≡ length above.lines → refused ≡ above.refused →
      MayGive (command.phase_open header above kept) (command.Allows header above kept) given
  pub goes : IfOk result (λ ending. (n : ℕ) (above : LinesAbove) (kept : K) (waits : List (Text O))
      → stands header n above kept waits → accepted ≡ length above.lines → refused ≡ above.refused →
      EndsAfter command shows header above kept waits given ending out out')

-- what a command shows at the end of a trace: nothing of a header that doesn't end
abbrev pub shown_at_end : {K : Type 0} → (Header → LinesAbove → K → Type 0) → CommandState K → Type 0
shown_at_end shows (Heading n stage) = Unit {0}
shown_at_end shows (Body n header above kept) = shows header above kept

-- what a command shows at the end of a trace, by the outcome of the phase that ends there
abbrev pub shown_given : {K O : Type 0} → (Header → LinesAbove → K → Option O → Type 0)
    → Waiting (CommandState K) O → Option O → Type 0
shown_given shows now given = shown_at_end (λ header above kept. shows header above kept given) now.state
