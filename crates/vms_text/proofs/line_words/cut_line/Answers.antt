use Rattle.std.proofs.Common.{◌≡◌, true, false, arith, map, get_or}
use Rattle.std.proofs.lemmas.Bool.Decides.{nat_tests}
use Rattle.vms_text.specs.Common.{is_word_byte}
use Rattle.vms_text.proofs.Pieces.{IsCut-other, IsCut-word, words_of-cut}
use Rattle.vms_text.proofs.line_words.cut_line.Goals as goal
use Rattle.vms_text.proofs.line_words.cut_line.Goals.{then-not-is_ascii_graphic, else-not-is_ascii_graphic}

pub loop-at-preserved : goal.loop-at-preserved
loop-at-preserved c =
    let line = c.args.line.now in
    let at = c.loop-at.at in
    let words = map (λ word. word.now) c.loop-at.words.items in
    elim c.if-not-is_ascii_graphic.branch [
      | then-not-is_ascii_graphic w ↦
          let other : is_word_byte (get_or line at 0) ≡ false = grind (arith, nat_tests) in
          rw (w.words-is, w.clean-is, w.is_blank-clean.ensures, w.begin-is)
          (IsCut-other line words (map (λ word. word.now) w.add_word.new.words.items) c.loop-at.clean c.loop-at.begin at
          c.loop-at-test.true other w.add_word.ensures c.loop-at.invariant)
      | else-not-is_ascii_graphic w ↦
          let graphic : is_word_byte (get_or line at 0) ≡ true = grind (arith, nat_tests) in
          rw (w.words-is, w.clean-is, w.begin-is)
          (IsCut-word line words c.loop-at.clean c.loop-at.begin at c.loop-at-test.true graphic c.loop-at.invariant)
    ]

pub returns : goal.returns
returns c =
    let line = c.args.line.now in
    let ends =
    words_of-cut line (map (λ word. word.now) c.loop-at.words.items)
    (map (λ word. word.now) c.add_word-2.new.words.items) c.loop-at.clean c.loop-at.begin c.loop-at.at
    (omega arith) c.add_word-2.ensures c.loop-at.invariant in
    record { words = ends.0; clean = ends.1 }
