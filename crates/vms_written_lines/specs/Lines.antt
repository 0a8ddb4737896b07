-- What a line of a written history says.
use Rattle.std.specs.Prelude.{ℕ, nat_lt, if◌then◌else◌, List, [], ◌∷◌, length, codes, bytes_eq, Option, Some, None}
use Rattle.std.specs.Prelude.{option_map, option_and_then}
use Rattle.vms_history.specs.Common.{Shape}
use Rattle.vms_text.specs.Common.{is_clean, is_ignored, most_line, unsigned_of, words_of}
use Rattle.vms_written_lines.specs.declared.lines.WrittenLine.{WrittenLine}
use Rattle.vms_written_lines.specs.declared.lines.WrittenLine.TheVariants.{Blank, Phase, Event}
use Rattle.vms_written_lines.specs.Forms.{read_step}
use Rattle.vms_written_lines.specs.Words.{whole}

-- `phase`, or a caller and its step, and the words after it
abbrev pub read_said : Shape → List (List ℕ) → Option (WrittenLine × List (List ℕ))
read_said shape [] = None
read_said shape (word ∷ words) =
    if bytes_eq word (codes "phase") then Some (Phase, words)
    else option_and_then (λ caller. option_map (λ step. (Event caller step.0, step.1)) (read_step shape words))
    (unsigned_of word)

-- what a line says, if it is in form: blank, or words that say one thing and nothing more
abbrev pub read_line : Shape → List ℕ → Option WrittenLine
read_line shape line =
    if nat_lt most_line (length line) then None
    else if is_ignored line then Some Blank
    else if is_clean line then whole (read_said shape (words_of line))
    else None
