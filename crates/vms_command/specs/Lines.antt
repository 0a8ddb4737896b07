-- What the lines of a body came to.
use Rattle.std.specs.Prelude.{ℕ, suc, List, [], ◌∷◌, Result, Ok, Err}
use Rattle.vms_base.specs.declared.headers.Header.{Header}
use Rattle.vms_text.specs.declared.acts.Line.{Line}
use Rattle.vms_line.specs.declared.causes.LineCause.{LineCause}
use Rattle.vms_script.specs.Common.{judged, with_counted}

-- the lines that count, the newest first, and how many were refused
pub record LinesAbove : Type 0 where
  pub lines : List Line
  pub refused : ℕ

-- no line came yet
abbrev pub nothing_above : LinesAbove
nothing_above = record { lines = []; refused = 0 }

-- with one line more, by what was judged of it
abbrev pub with_judged : Result Line LineCause → LinesAbove → LinesAbove
with_judged (Ok line) above = record above { lines = with_counted (Ok line) above.lines }
with_judged (Err cause) above = record above { refused = suc above.refused }

-- with these lines more
abbrev pub come_to : Header → LinesAbove → List (List ℕ) → LinesAbove
come_to header above [] = above
come_to header above (text ∷ texts) = come_to header (with_judged (judged header above.lines text) above) texts
