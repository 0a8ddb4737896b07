-- A number below ten is one digit.
use Rattle.std.proofs.Common.{◌∷◌, List, ap, arith, sym, ◌∙◌, ℕ}
use Rattle.std.proofs.lemmas.Fmt.{decimal_digit}
use Rattle.vms_written_lines.specs.Spelling.{mode_word}
use Rattle.vms_written_lines.proofs.writing.number_of_mode.Goals as goal

pub returns-in-Mod : goal.returns-in-Mod
returns-in-Mod c =
    decimal_digit 0 (omega arith) ∙ ap mode_word (sym c.in-Mod.is)

pub returns-in-Inc : goal.returns-in-Inc
returns-in-Inc c =
    decimal_digit 1 (omega arith) ∙ ap mode_word (sym c.in-Inc.is)

pub returns-in-Dec : goal.returns-in-Dec
returns-in-Dec c =
    ap (λ (digits : List ℕ). 45 ∷ digits) (decimal_digit 1 (omega arith)) ∙ ap mode_word (sym c.in-Dec.is)
