use Rattle.std.proofs.Common.{refl, ◌∙◌}
use Rattle.vms_text.proofs.Pieces.{is_ignored-none, is_ignored-word}
use Rattle.vms_text.proofs.line_words.is_ignored.Goals as goal

pub returns-in-Some : goal.returns-in-Some
returns-in-Some c = is_ignored-word c.args.line.now c.in-Some.begin c.in-Some.field-0-1 c.in-Some.ensures.word

pub returns-in-None : goal.returns-in-None
returns-in-None c = c.are_blanks.ensures ∙ is_ignored-none c.args.line.now (c.in-None.ensures.none.0 refl)
