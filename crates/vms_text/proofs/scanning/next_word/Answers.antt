use Rattle.std.proofs.Common.{ℕ, List, Option, ◌≤◌, ◌-◌, take, refl, ◌≡◌, ◌+◌, ◌∙◌, Some, ap, sym, arith, drop, length}
use Rattle.std.proofs.Common.{not, position}
use Rattle.std.proofs.lemmas.Grind.{common_steps}
use Rattle.std.proofs.lemmas.List.{take_rest}
use Rattle.std.specs.List.{position_or_len}
use Rattle.vms_text.specs.Common.{IsNextWord, is_word_byte}
use Rattle.vms_text.proofs.Scans.{IsNextWord-found, words_of-none}
use Rattle.vms_text.proofs.scanning.next_word.Goals as goal

pub returns-in_err-begin-clause-none : goal.returns-in_err-begin-clause-none
returns-in_err-begin-clause-none c =
    let e =
    sym (ap (position is_word_byte) (take_rest c.args.line.now c.args.from)) ∙ sym c.word_begin.ensures
    ∙ c.in_err-begin.was in
    let none = words_of-none (drop c.args.from c.args.line.now) e in
    rw c.from_residual.ensures (λ _. none, λ _. refl)

found : (line : List ℕ) (from skipped size : ℕ) (begin_found : Option ℕ) → from ≤ length line
    → begin_found ≡ position is_word_byte (take (length line - from) (drop from line)) → begin_found ≡ Some skipped
    → size ≡ position_or_len (λ byte. not (is_word_byte byte))
    (take (length line - (from + skipped)) (drop (from + skipped) line))
    → IsNextWord line from (from + skipped) (from + skipped + size)
found line from skipped size begin_found inside is some run =
    let skips = sym (ap (position is_word_byte) (take_rest line from)) ∙ sym is ∙ some in
    let sized = run ∙ ap (position_or_len (λ byte. not (is_word_byte byte))) (take_rest line (from + skipped)) in
    IsNextWord-found line from skipped size inside skips sized

pub overflow_add-end : goal.overflow_add-end
overflow_add-end c =
    let word =
    found c.args.line.now c.args.from c.in_ok-begin.field-0 c.word_length.result c.word_begin.result c.requires
    c.word_begin.ensures c.in_ok-begin.was c.word_length.ensures in
    grind (arith, common_steps, word.within)

pub returns-clause-word : goal.returns-clause-word
returns-clause-word c =
    found c.args.line.now c.args.from c.in_ok-begin.field-0 c.word_length.result c.word_begin.result c.requires
    c.word_begin.ensures c.in_ok-begin.was c.word_length.ensures

pub returns-clause-none : goal.returns-clause-none
returns-clause-none c =
    let word =
    found c.args.line.now c.args.from c.in_ok-begin.field-0 c.word_length.result c.word_begin.result c.requires
    c.word_begin.ensures c.in_ok-begin.was c.word_length.ensures in
    (λ is. absurd cc, λ empty. let both = sym word.words ∙ empty in absurd cc)
