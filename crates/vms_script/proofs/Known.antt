-- For other crates too: a line that counts is what was read, and is one of its header.
use Rattle.std.proofs.Common.{◌≡◌, ℕ, Bool, true, false, if◌then◌else◌, List, ap, sym, ◌∙◌}
use Rattle.std.specs.Prelude.{nat_eq, Result, Ok, Err}
use Rattle.std.proofs.lemmas.Result.{IfOk-at_ok}
use Rattle.vms_base.specs.declared.headers.Header.{Header}
use Rattle.vms_base.specs.declared.kinds.CpuState.{CpuState}
use Rattle.vms_base.specs.declared.kinds.CpuState.TheVariants as states
use Rattle.vms_base.specs.Common.{IsHeader, is_online}
use Rattle.vms_text.specs.declared.acts.Act.{Act}
use Rattle.vms_text.specs.declared.acts.Act.TheVariants.{Dead}
use Rattle.vms_text.specs.declared.acts.Boundary.{Boundary as BoundaryOf}
use Rattle.vms_text.specs.declared.acts.Boundary.TheVariants.{Offline, Online}
use Rattle.vms_text.specs.declared.acts.Lane.TheVariants.{Cpu, Control}
use Rattle.vms_text.specs.declared.acts.Line.{Line}
use Rattle.vms_text.specs.declared.acts.Line.TheVariants.{Blank, Lane, Boundary}
use Rattle.vms_line.specs.declared.causes.LineCause.{LineCause}
use Rattle.vms_line.specs.declared.causes.LineCause.TheVariants.{NotOnline, Overflow, LastCpu}
use Rattle.vms_line.specs.Common.{read_line, IsLineOf}
use Rattle.vms_text.specs.Common.{and_then}
use Rattle.vms_line.proofs.Common.{read_line-known}
use Rattle.vms_script.specs.Common.{online_among, allowed, allowed_boundary, allowed_burial, allowed_from}
use Rattle.vms_script.specs.Common.{allowed_of_control, allowed_online, judged, judged_from, overflows_from, Start}
use Rattle.vms_script.specs.Common.{first_start, start_after}

-- the line itself, if any
abbrev Keeps : Line → Result Line LineCause → Type 0
Keeps said result = (line : Line) → result ≡ Ok line → said ≡ line

keeps-ok : (said : Line) → Keeps said (Ok said)
keeps-ok said = λ line is. cc

keeps-err : (said : Line) (cause : LineCause) → Keeps said (Err cause)
keeps-err said cause = λ line is. absurd cc

keeps-either : (said : Line) (b : Bool) (x y : Result Line LineCause) → Keeps said x → Keeps said y
    → Keeps said (if b then x else y)
keeps-either said true x y first second = first
keeps-either said false x y first second = second

keeps-burial : (said : Line) (state : CpuState) → Keeps said (allowed_burial state said)
keeps-burial said states.Dead = keeps-ok said
keeps-burial said states.Online = λ line is. absurd cc
keeps-burial said states.Absent = λ line is. absurd cc

keeps-online : (said : Line) (state : CpuState) → Keeps said (allowed_online state said)
keeps-online said states.Absent = keeps-ok said
keeps-online said states.Online = λ line is. absurd cc
keeps-online said states.Dead = λ line is. absurd cc

keeps-control : (start : Start) (act : Act) (said : Line) → Keeps said (allowed_of_control start act said)
keeps-control start (Dead cpu) said = keeps-burial said (start.state cpu.number)
keeps-control start act said = keeps-ok said

keeps-boundary : (header : Header) (start : Start) (boundary : BoundaryOf) (said : Line)
    → Keeps said (allowed_boundary header start boundary said)
keeps-boundary header start (Offline cpu) said =
    keeps-either said (is_online (start.state cpu.number)) _ _
    (keeps-either said (nat_eq (online_among header.layout.cpus start.state) 1) _ _ (keeps-err said LastCpu)
    (keeps-ok said)) (keeps-err said NotOnline)
keeps-boundary header start (Online cpu) said = keeps-online said (start.state cpu.number)
keeps-boundary header start boundary said = keeps-ok said

keeps-allowed : (header : Header) (start : Start) (said : Line) → Keeps said (allowed_from header start said)
keeps-allowed header start Blank = keeps-ok Blank
keeps-allowed header start (Lane (Cpu cpu) act) =
    keeps-either (Lane (Cpu cpu) act) (is_online (start.state cpu.number)) _ _
    (keeps-either (Lane (Cpu cpu) act) (overflows_from start cpu.number act) _ _
    (keeps-err (Lane (Cpu cpu) act) Overflow) (keeps-ok (Lane (Cpu cpu) act)))
    (keeps-err (Lane (Cpu cpu) act) NotOnline)
keeps-allowed header start (Lane Control act) = keeps-control start act (Lane Control act)
keeps-allowed header start (Boundary boundary) = keeps-boundary header start boundary (Boundary boundary)

module _ (header : Header) (start : Start) where
  read-from : (read : Result Line LineCause) (line : Line) → and_then read (allowed_from header start) ≡ Ok line
      → read ≡ Ok line
  read-from (Ok said) line is = ap Ok (keeps-allowed header start said line is)
  read-from (Err cause) line is = absurd cc

  -- a line that counts was read as what it says
  pub judged_from-read : (text : List ℕ) (line : Line) → judged_from header start text ≡ Ok line
      → read_line header text ≡ Ok line
  judged_from-read text line is = read-from (read_line header text) line is

  -- it is a line of the header
  pub judged_from-known : (text : List ℕ) (line : Line) → IsHeader header → judged_from header start text ≡ Ok line
      → IsLineOf header line
  judged_from-known text line is_header is =
      IfOk-at_ok (IsLineOf header) (judged_from-read text line is) (read_line-known header is_header text)

  -- and it is allowed
  pub judged_from-allowed : (text : List ℕ) (line : Line) → judged_from header start text ≡ Ok line
      → allowed_from header start line ≡ Ok line
  judged_from-allowed text line is =
      sym (ap (λ (r : Result Line LineCause). and_then r (allowed_from header start))
      (judged_from-read text line is)) ∙ is

-- the same of a line after some lines of a body
module _ (header : Header) (lines : List Line) (text : List ℕ) (line : Line) where
  pub judged-read : judged header lines text ≡ Ok line → read_line header text ≡ Ok line
  judged-read is = judged_from-read header (start_after first_start lines) text line is

  pub judged-known : IsHeader header → judged header lines text ≡ Ok line → IsLineOf header line
  judged-known is_header is = judged_from-known header (start_after first_start lines) text line is_header is

-- a line that was read is judged as what it says
pub judged-of : (header : Header) (lines : List Line) (text : List ℕ) (line : Line) (answer : Result Line LineCause)
    → read_line header text ≡ Ok line → allowed header lines line ≡ answer → judged header lines text ≡ answer
judged-of header lines text line answer read is =
    ap (λ (r : Result Line LineCause). and_then r (allowed header lines)) read ∙ is

pub judged-unread : (header : Header) (lines : List Line) (text : List ℕ) (cause : LineCause)
    → read_line header text ≡ Err cause → judged header lines text ≡ Err cause
judged-unread header lines text cause read = ap (λ (r : Result Line LineCause). and_then r (allowed header lines)) read
