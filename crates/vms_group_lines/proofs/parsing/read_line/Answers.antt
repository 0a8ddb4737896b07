-- The first eight words tell what the line says.
use Rattle.std.proofs.Common.{ap, arith, map, sym, ◌∙◌}
use Rattle.vms_group_lines.proofs.BodyLines.{read_group_line-words}
use Rattle.vms_group_lines.proofs.parsing.read_line.Goals as goal

pub returns-then-cut_line : goal.returns-then-cut_line
returns-then-cut_line c =
    let words = ap (map (λ word. word.now)) c.as_slice.ensures.value ∙ c.cut_line.ensures.words in
    c.read_words.ensures
    ∙ read_group_line-words c.args.header.now c.args.line.now _ (omega arith)
    (sym c.is_ignored.ensures ∙ c.if-is_ignored.false) (sym c.cut_line.ensures.clean ∙ c.if-cut_line.true) words
