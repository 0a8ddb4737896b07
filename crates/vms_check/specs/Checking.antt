-- What `check` writes of a text: its header and each line that counts in the one spelling, and a comment in the place
-- of each line that doesn't.
use Rattle.std.specs.Prelude.{ℕ, false, List, [], ◌++◌, length, codes, Result, Ok, Err}
use Rattle.vms_base.specs.declared.headers.Header.{Header}
use Rattle.vms_text.specs.declared.acts.Line.{Line}
use Rattle.vms_text.specs.declared.acts.Line.TheVariants.{Blank}
use Rattle.vms_line.specs.declared.causes.LineCause.{LineCause}
use Rattle.vms_header.specs.Common.{spelled_header}
use Rattle.vms_line.specs.Common.{spelled_line}
use Rattle.vms_stream.specs.Common.{Behavior, plainly, Plain}
use Rattle.vms_command.specs.Common.{shown_at_end, TraceCommand, CommandState, MayEnd-status_at_end, status_at_end}
use Rattle.vms_command.specs.Common.{following, LinesAbove, refused_line, done_line, command_text}

-- what is written for a line that counts, and nothing for a blank one
abbrev pub accepted_line : Header → Line → List ℕ
accepted_line header Blank = []
accepted_line header line = spelled_line header line

-- what is written for line n, by what was judged of it
abbrev pub checked_line : Header → ℕ → Result Line LineCause → List ℕ
checked_line header n (Ok line) = accepted_line header line
checked_line header n (Err cause) = codes "# " ++ refused_line n cause

-- the last line
abbrev pub checked_end : LinesAbove → List ℕ
checked_end above = codes "# " ++ done_line (length above.lines) above.refused

-- the command `check`: it keeps nothing of the lines but what they came to, and makes no phase
abbrev pub checking : TraceCommand (Unit {0}) ⊥
checking = record {
  begins = λ header. tt;
  opens = spelled_header;
  phase_open = λ header above kept. false;
  Allows = λ header above kept outcome. ⊥;
  next = λ header n above result given kept. tt;
  text = λ header n above result kept. Plain (checked_line header n result);
  last = λ header above kept. Plain (checked_end above);
  ends = λ above. status_at_end above.refused;
  may_end = λ above. MayEnd-status_at_end above.refused;
}

-- a check, line by line
abbrev pub check : Behavior (CommandState (Unit {0}))
check = plainly (following checking)

-- what is written for a text: the one line of a refused header, or the header, what is written for each line, and the
-- last line
abbrev pub check_output : List ℕ → List ℕ
check_output text = command_text checking text

-- it shows nothing at the end but what is printed there
abbrev pub shown_by_check : CommandState (Unit {0}) → Type 0
shown_by_check = shown_at_end (λ header above kept. Unit {0})
