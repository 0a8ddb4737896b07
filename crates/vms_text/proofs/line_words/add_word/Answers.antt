use Rattle.std.proofs.Common.{map, ap, arith, ◌∙◌}
use Rattle.std.proofs.lemmas.List.{length-map, map_push}
use Rattle.std.proofs.lemmas.Bool.Decides.{nat_tests}
use Rattle.vms_text.proofs.Pieces.{take-empty, take-filled, take-full}
use Rattle.vms_text.proofs.line_words.add_word.Goals as goal
use Rattle.vms_text.proofs.line_words.add_word.Goals.{else-not-is_full-via-then-not-is_full+else-not-is_empty}
use Rattle.vms_text.proofs.line_words.add_word.Goals.{else-not-is_full-via-else-not-is_full}

pub returns-then-not-is_empty : goal.returns-then-not-is_empty
returns-then-not-is_empty c =
    let words = c.args.words.now.items in
    ap (map (λ word. word.now)) c.push.ensures.items ∙ map_push (λ word. word.now) words c.args.word
    ∙ take-filled (map (λ word. word.now) words) c.args.word.now (grind (arith, nat_tests, length-map))
    (grind (arith, nat_tests))

pub returns-else-not-is_full : goal.returns-else-not-is_full
returns-else-not-is_full c =
    let words = c.args.words.now.items in
    elim c.else-not-is_full.branch [
      | else-not-is_full-via-then-not-is_full+else-not-is_empty w ↦ take-empty
          (map (λ word. word.now) words) c.args.word.now (grind (arith, nat_tests, length-map))
          (grind (arith, nat_tests))
      | else-not-is_full-via-else-not-is_full w ↦ take-full (map (λ word. word.now) words) _
          (grind (arith, nat_tests, length-map))
    ]
