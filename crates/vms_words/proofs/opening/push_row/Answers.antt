-- The goals were that each word is of the layout or stays 0, and that the list grows by it.
use Rattle.std.proofs.Common.{◌+◌, ap, ◌∙◌, arith, refl}
use Rattle.vms_calls.specs.Common.{cell}
use Rattle.vms_core.proofs.Common.{AreBytes-opening}
use Rattle.vms_words.specs.Common.{word_by}
use Rattle.vms_words.proofs.Blocks.{are_blocks, width-most}
use Rattle.vms_words.proofs.OpeningWords.{row-all, row-more}
use Rattle.vms_words.proofs.Places.{row-stands, stands-known}
use Rattle.vms_words.proofs.opening.push_row.Goals as goal

pub in_row-requires-clause-place : goal.in_row-requires-clause-place
in_row-requires-clause-place c =
    let few = width-most c.args.layout.now c.requires.layout c.args.blocks.now
    (are_blocks c.args.layout.now c.args.blocks.now c.requires.laid) in
    omega (arith, few, c.loop-place-test.true)

pub in_row-requires-clause-state : goal.in_row-requires-clause-state
in_row-requires-clause-state c =
    let are = are_blocks c.args.layout.now c.args.blocks.now c.requires.laid in
    let few = width-most c.args.layout.now c.requires.layout c.args.blocks.now are in
    omega (arith, few, are.width)

pub word_by-requires-clause-bytes : goal.word_by-requires-clause-bytes
word_by-requires-clause-bytes c = AreBytes-opening c.args.layout.now c.args.state.now c.requires.opening

pub word_by-requires-clause-spot : goal.word_by-requires-clause-spot
word_by-requires-clause-spot c = rw c.in_row.ensures
    (stands-known c.args.layout.now c.args.blocks.now
    (c.args.blocks.now.rows + cell c.args.blocks.now.width c.args.cpu.number c.loop-place.place) _
    (row-stands c.args.layout.now c.args.blocks.now
    (are_blocks c.args.layout.now c.args.blocks.now c.requires.laid) c.args.cpu.number c.loop-place.place
    c.requires.cpu (c.args.blocks.now.rows + cell c.args.blocks.now.width c.args.cpu.number c.loop-place.place) refl))

pub loop-place-preserved : goal.loop-place-preserved
loop-place-preserved c =
    row-more c.args.layout.now c.args.blocks.now
    (are_blocks c.args.layout.now c.args.blocks.now c.requires.laid) c.args.state.now c.args.cpu.number
    c.loop-place.place c.word_by.result c.loop-place.words.items c.push.new.self.items c.loop-place-test.true
    c.loop-place.invariant (c.word_by.ensures ∙ ap (word_by c.args.state.now) c.in_row.ensures)
    c.in_ok-push.ensures.items

pub returns : goal.returns
returns c =
    row-all c.args.layout.now c.args.blocks.now
    (are_blocks c.args.layout.now c.args.blocks.now c.requires.laid) c.args.state.now c.args.cpu.number
    c.loop-place.place c.loop-place.words.items c.loop-place.auto.place-end c.loop-place-test.false
    c.loop-place.invariant
