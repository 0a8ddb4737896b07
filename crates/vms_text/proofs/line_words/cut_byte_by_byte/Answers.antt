use Rattle.std.proofs.Common.{◌≡◌, ◌==◌, false, true, map, get_or, arith}
use Rattle.std.proofs.lemmas.Bool.Decides.{nat_tests}
use Rattle.vms_text.proofs.Parts.{IsParted-byte, IsParted-space, space_parts-parted}
use Rattle.vms_text.proofs.line_words.cut_byte_by_byte.Goals as goal
use Rattle.vms_text.proofs.line_words.cut_byte_by_byte.Goals.{then-byte-eq32, else-byte-eq32}

pub loop-at-preserved : goal.loop-at-preserved
loop-at-preserved c =
    let line = c.args.line.now in
    let at = c.loop-at.at in
    let parts = map (λ part. part.now) c.loop-at.parts.items in
    elim c.if-byte-eq32.branch [
      | then-byte-eq32 w ↦
          let space : (get_or line at 0 == 32) ≡ true = grind (arith, nat_tests) in
          rw (w.parts-is, w.begin-is)
          (IsParted-space line parts (map (λ part. part.now) w.add_part.new.parts.items) c.loop-at.begin at
          c.loop-at-test.true space w.add_part.ensures c.loop-at.invariant)
      | else-byte-eq32 w ↦
          let other : (get_or line at 0 == 32) ≡ false = grind (arith, nat_tests) in
          rw (w.parts-is, w.begin-is)
          (IsParted-byte line parts c.loop-at.begin at c.loop-at-test.true other c.loop-at.invariant)
    ]

pub returns : goal.returns
returns c =
    space_parts-parted c.args.line.now (map (λ part. part.now) c.loop-at.parts.items)
    (map (λ part. part.now) c.add_part-2.new.parts.items) c.loop-at.begin c.loop-at.at (omega arith)
    c.add_part-2.ensures c.loop-at.invariant
