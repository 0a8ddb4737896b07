use Rattle.std.proofs.Common.{◌+◌, map, arith, refl}
use Rattle.std.proofs.lemmas.Bool.Decides.{nat_tests}
use Rattle.std.proofs.lemmas.List.{length-map, take_rest}
use Rattle.vms_text.proofs.MarkedSpaces.{IsMarked-more, space_parts-full, space_parts-marked}
use Rattle.vms_text.proofs.marks.cut_at_marks.Goals as goal

pub loop-left-preserved : goal.loop-left-preserved
loop-left-preserved c =
    let rest = c.loop-left.rest.now in
    let at = c.first_mark-at.result in
    let mark = c.first_mark-at.ensures in
    IsMarked-more c.args.line.now (map (λ part. part.now) c.loop-left.parts.items)
    (map (λ part. part.now) c.push_part.new.parts.items) rest _ c.loop-left.left _ at mark.within mark.marked
    mark.before
    c.push_part.ensures (take_rest rest (at + 1)) refl c.loop-left.invariant

pub returns-then-is_full : goal.returns-then-is_full
returns-then-is_full c =
    space_parts-full c.args.line.now (map (λ part. part.now) c.loop-left.parts.items) c.loop-left.rest.now
    c.loop-left.left
    (grind (arith, nat_tests, length-map)) c.loop-left.invariant

pub returns : goal.returns
returns c =
    space_parts-marked c.args.line.now (map (λ part. part.now) c.loop-left.parts.items)
    (map (λ part. part.now) c.add_part.new.parts.items) c.loop-left.rest.now c.loop-left.left (omega arith)
    c.add_part.ensures c.loop-left.invariant
