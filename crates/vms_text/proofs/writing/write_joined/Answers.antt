use Rattle.std.proofs.lemmas.List.{take_rest}
use Rattle.vms_text.proofs.Appends.{OnOk-from, append_twice, joined-parts}
use Rattle.vms_text.proofs.writing.write_joined.Goals as goal

pub returns-in_ok-write_word-in-len1-up-clause-ok : goal.returns-in_ok-write_word-in-len1-up-clause-ok
returns-in_ok-write_word-in-len1-up-clause-ok c =
    let words = c.args.words.now in
    OnOk-from c.write_more.result _ _
    (λ more. append_twice _ _ _ _ _ _ more c.in_ok-write_word-in-len1-up.ensures.ok
    (joined-parts words _ _ c.in-len1-up.len_at_least (take_rest words 1)))
    c.write_more.ensures.ok
