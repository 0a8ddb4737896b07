use Rattle.std.proofs.Common.{ap, map, sym, ◌∙◌}
use Rattle.std.specs.Result.{result_ok}
use Rattle.vms_line.proofs.SpelledRead.{IsSpelled-read, read_words-parts}
use Rattle.vms_line.proofs.parsing.parse_spelled.Goals as goal

pub returns-in-Ok-clause-value : goal.returns-in-Ok-clause-value
returns-in-Ok-clause-value c =
    let cut = ap (map (λ word. word.now)) c.as_slice.ensures.value ∙ c.cut_at_spaces.ensures in
    ap result_ok (sym c.in-Ok.is
    ∙ read_words-parts c.args.header.now c.args.line.now _ c.read_words.result c.read_words.ensures cut)

pub returns-in-Ok-clause-spelled : goal.returns-in-Ok-clause-spelled
returns-in-Ok-clause-spelled c =
    let cut = ap (map (λ word. word.now)) c.as_slice.ensures.value ∙ c.cut_at_spaces.ensures in
    let read = read_words-parts c.args.header.now c.args.line.now _ c.read_words.result c.read_words.ensures cut in
    IsSpelled-read c.args.header.now c.requires c.args.line.now c.in-Ok.said (sym read ∙ c.in-Ok.is)

pub returns-in-Err-clause-value : goal.returns-in-Err-clause-value
returns-in-Err-clause-value c =
    let cut = ap (map (λ word. word.now)) c.as_slice.ensures.value ∙ c.cut_at_spaces.ensures in
    ap result_ok (sym c.in-Err.is
    ∙ read_words-parts c.args.header.now c.args.line.now _ c.read_words.result c.read_words.ensures cut)
