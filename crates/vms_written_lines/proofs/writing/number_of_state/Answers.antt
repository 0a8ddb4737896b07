-- A number below ten is one digit.
use Rattle.std.proofs.Common.{ap, arith, sym, ◌∙◌}
use Rattle.std.proofs.lemmas.Fmt.{decimal_digit}
use Rattle.vms_written_lines.specs.Spelling.{cpu_state_word}
use Rattle.vms_written_lines.proofs.writing.number_of_state.Goals as goal

pub returns-in-Online : goal.returns-in-Online
returns-in-Online c =
    decimal_digit 0 (omega arith) ∙ ap cpu_state_word (sym c.in-Online.is)

pub returns-in-Dead : goal.returns-in-Dead
returns-in-Dead c =
    decimal_digit 1 (omega arith) ∙ ap cpu_state_word (sym c.in-Dead.is)

pub returns-in-Absent : goal.returns-in-Absent
returns-in-Absent c =
    decimal_digit 2 (omega arith) ∙ ap cpu_state_word (sym c.in-Absent.is)
