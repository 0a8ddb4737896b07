-- The word is the run of bytes of a word that the rest of the line begins with.
use Rattle.std.proofs.Common.{◌∙◌, ap, arith, not}
use Rattle.std.proofs.lemmas.List.{take_rest}
use Rattle.std.proofs.lemmas.List.Sums.{prefix_len-le-length}
use Rattle.vms_text.specs.Common.{is_clean, is_word_byte, words_of}
use Rattle.vms_written_lines.specs.Words.{WordsLeft}
use Rattle.vms_written_lines.proofs.FirstWords.{BeginsWord-run}
use Rattle.vms_written_lines.proofs.words.Words.next_of_any_length.Goals as goal

pub slice_bounds-without_space-count : goal.slice_bounds-without_space-count
slice_bounds-without_space-count c =
    omega (
      arith,
      c.word_length-end.ensures,
      prefix_len-le-length (λ byte. not (not (is_word_byte byte))) c.self.inside.rest.now,
    )

pub slice_bounds-without_space-start : goal.slice_bounds-without_space-start
slice_bounds-without_space-start c =
    omega (
      arith,
      c.word_length-end.ensures,
      prefix_len-le-length (λ byte. not (not (is_word_byte byte))) c.self.inside.rest.now,
    )

pub returns-clause-words : goal.returns-clause-words
returns-clause-words c =
    let line = c.self.inside.rest.now in
    let size = c.word_length-end.result in
    let run = BeginsWord-run line size c.word_length-end.ensures (omega (arith, c.if-end-eq0.false)) in
    let seen = ap (λ (words : WordsLeft). words.words) c.self.view_is in
    let more = c.without_space-self-inside.ensures.words ∙ ap words_of (take_rest line size) in
    let words = run.words in
    cc

pub returns-clause-clean : goal.returns-clause-clean
returns-clause-clean c =
    let line = c.self.inside.rest.now in
    let size = c.word_length-end.result in
    let run = BeginsWord-run line size c.word_length-end.ensures (omega (arith, c.if-end-eq0.false)) in
    let seen = ap (λ (words : WordsLeft). words.clean) c.self.view_is in
    let more = c.without_space-self-inside.ensures.clean ∙ ap is_clean (take_rest line size) in
    let clean = run.clean in
    cc
