use Rattle.std.proofs.Common.{[], arith, drop, get_or, ◌∙◌}
use Rattle.vms_text.specs.Common.{words_of}
use Rattle.vms_line.proofs.LineWords.{first_word, is_ignored-first, is_ignored-no_word, no_word}
use Rattle.vms_line.proofs.parsing.are_ignored.Goals as goal

pub returns-in-empty : goal.returns-in-empty
returns-in-empty c =
    λ line words clean. clean ∙ is_ignored-no_word line (no_word c.args.words.now (words_of line) (omega arith) words)

pub returns-in-len1-up : goal.returns-in-len1-up
returns-in-len1-up c = λ line words clean.
    let first =
    first_word c.args.words.now (words_of line) (record { ref_ptr = (0, 0); now = [] }) (omega arith) words in
    c.begins_remark.ensures ∙ is_ignored-first line
    (get_or c.args.words.now 0 (record { ref_ptr = (0, 0); now = [] })).now (drop 1 (words_of line)) first
