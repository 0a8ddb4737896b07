use Rattle.std.proofs.Common.{arith, map, ◌∷◌, []}
use Rattle.std.proofs.lemmas.Bool.Decides.{nat_tests}
use Rattle.std.proofs.lemmas.List.{length-map}
use Rattle.vms_text.proofs.Pieces.{take-full}
use Rattle.vms_text.proofs.line_words.add_part.Goals as goal

pub returns-else-not-is_full : goal.returns-else-not-is_full
returns-else-not-is_full c =
    take-full (map (λ part. part.now) c.args.parts.now.items) (c.args.part.now ∷ [])
    (grind (arith, nat_tests, length-map))
