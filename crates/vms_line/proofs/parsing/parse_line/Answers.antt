use Rattle.std.proofs.Common.{ap, arith, map, sym, true, false, ◌≡◌, ◌∙◌}
use Rattle.vms_line.specs.Common.{read_words}
use Rattle.vms_text.specs.Common.{is_clean, is_ignored}
use Rattle.vms_line.proofs.LineWords.{read_line-words}
use Rattle.vms_line.proofs.parsing.parse_line.Goals as goal

pub returns-then-clean : goal.returns-then-clean
returns-then-clean c =
    let header = c.args.header.now in
    let line = c.args.line.now in
    let words = ap (map (λ word. word.now)) c.as_slice-words.ensures.value ∙ c.cut_line-clean.ensures.words in
    let ignored : is_ignored line ≡ false =
    sym (c.are_ignored.ensures line words c.cut_line-clean.ensures.clean) ∙ c.if-are_ignored.false in
    let clean : is_clean line ≡ true = sym c.cut_line-clean.ensures.clean ∙ c.if-clean.true in
    c.read_words.ensures ∙ ap (read_words header) words ∙ sym (read_line-words header line (omega arith) ignored clean)
