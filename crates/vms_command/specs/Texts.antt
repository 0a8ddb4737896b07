-- What a command writes of a text that asks for nothing, by its header and its body.
use Rattle.std.specs.Prelude.{◌≡◌, ◌≢◌, ℕ, suc, List, [], ◌∷◌, ◌++◌, drop, Some, None, Result, Ok, Err}
use Rattle.vms_base.specs.declared.headers.Header.{Header}
use Rattle.vms_text.specs.Common.{lines_of}
use Rattle.vms_header.specs.Common.{Fault, read_header}
use Rattle.vms_script.specs.Common.{judged}
use Rattle.vms_stream.specs.declared.statuses.Status.TheVariants.{TooLong}
use Rattle.vms_stream.specs.Common.{halted, output, plain_bytes, plainly}
use Rattle.vms_command.specs.Commands.{TraceCommand, following}
use Rattle.vms_command.specs.Lines.{LinesAbove, come_to, nothing_above, with_judged}
use Rattle.vms_command.specs.Printing.{header_line}

-- what a command keeps after these lines of a body, the first of them line n
abbrev pub kept_by_command : {K O : Type 0} → TraceCommand K O → Header → ℕ → LinesAbove → K → List (List ℕ) → K
kept_by_command command header n above kept [] = kept
kept_by_command command header n above kept (text ∷ texts) =
    kept_by_command command header (suc n) (with_judged (judged header above.lines text) above)
    (command.next header n above (judged header above.lines text) None kept) texts

-- what it prints of them
abbrev pub printed_of : {K O : Type 0} → TraceCommand K O → Header → ℕ → LinesAbove → K → List (List ℕ) → List ℕ
printed_of command header n above kept [] = []
printed_of command header n above kept (text ∷ texts) =
    plain_bytes (command.text header n above (judged header above.lines text) kept)
    ++ printed_of command header (suc n) (with_judged (judged header above.lines text) above)
    (command.next header n above (judged header above.lines text) None kept) texts

-- what it writes of a body, the first line of which is line n, and at the end
abbrev pub body_text : {K O : Type 0} → TraceCommand K O → Header → ℕ → List (List ℕ) → List ℕ
body_text command header n lines = printed_of command header n nothing_above (command.begins header) lines
    ++ plain_bytes (command.last header (come_to header nothing_above lines)
    (kept_by_command command header n nothing_above (command.begins header) lines))

-- what it writes of the lines of a text: the one line of a refused header, or header and body
abbrev pub text_under : {K O : Type 0} → TraceCommand K O → Result (Header × ℕ) Fault → List (List ℕ) → List ℕ
text_under command (Err fault) lines = header_line fault
text_under command (Ok (header, count)) lines =
    command.opens header ++ body_text command header (suc count) (drop count lines)

abbrev pub command_text : {K O : Type 0} → TraceCommand K O → List ℕ → List ℕ
command_text command text = text_under command (read_header (lines_of text)) (lines_of text)

-- that is what a command that asks for nothing writes line by line of a text within the limits
abbrev pub WritesTexts : {K O : Type 0} → TraceCommand K O → Type 0
WritesTexts command =
    (text : List ℕ) → halted (plainly (following command)) (following command).start (lines_of text) ≢ Some TooLong →
    output (plainly (following command)) (lines_of text) ≡ command_text command text
