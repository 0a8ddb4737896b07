-- Whether the bytes are clean goes by those before the word and those after it.
use Rattle.std.proofs.Common.{ap}
use Rattle.vms_written_lines.specs.Words.{WordsLeft}
use Rattle.vms_written_lines.proofs.WordsRead.{is_clean-next}
use Rattle.vms_written_lines.proofs.words.Words.next_after_others.Goals as goal

pub returns-clause-clean : goal.returns-clause-clean
returns-clause-clean c =
    let cut =
    is_clean-next c.self.inside.clean c.is_clean.result c.self.inside.rest.now c.in_ok-begin.begin c.in_ok-begin.end
    c.in_ok-begin.ensures.word c.is_clean.ensures in
    let seen = ap (λ (words : WordsLeft). words.clean) c.self.view_is in
    cc
