-- The goals were that each word is of the layout or stays 0, and that the list grows by it.
use Rattle.std.proofs.Common.{ap, ◌∙◌, arith}
use Rattle.vms_core.proofs.Common.{AreBytes-opening}
use Rattle.vms_words.specs.Common.{first_words, word_by}
use Rattle.vms_words.proofs.Blocks.{are_blocks, rows-most}
use Rattle.vms_words.proofs.OpeningWords.{before-more}
use Rattle.vms_words.proofs.Places.{before-stands, stands-known}
use Rattle.vms_words.proofs.opening.push_shared.Goals as goal

pub before_rows-requires : goal.before_rows-requires
before_rows-requires c =
    let few = rows-most c.args.layout.now c.requires.layout c.args.blocks.now
    (are_blocks c.args.layout.now c.args.blocks.now c.requires.laid) in
    omega (arith, few, c.loop-place-test.true)

pub word_by-requires-clause-bytes : goal.word_by-requires-clause-bytes
word_by-requires-clause-bytes c = AreBytes-opening c.args.layout.now c.args.state.now c.requires.opening

pub word_by-requires-clause-spot : goal.word_by-requires-clause-spot
word_by-requires-clause-spot c = rw c.before_rows.ensures
    (stands-known c.args.layout.now c.args.blocks.now c.loop-place.place _
    (before-stands c.args.layout.now c.args.blocks.now
    (are_blocks c.args.layout.now c.args.blocks.now c.requires.laid) c.loop-place.place))

pub loop-place-preserved : goal.loop-place-preserved
loop-place-preserved c =
    before-more c.args.layout.now c.args.blocks.now
    (are_blocks c.args.layout.now c.args.blocks.now c.requires.laid) c.args.state.now c.loop-place.place
    c.word_by.result c.loop-place.words.items c.push.new.self.items c.loop-place-test.true c.loop-place.invariant
    (c.word_by.ensures ∙ ap (word_by c.args.state.now) c.before_rows.ensures) c.in_ok-push.ensures.items

pub returns : goal.returns
returns c =
    c.loop-place.invariant
    ∙ ap (first_words c.args.state.now c.args.blocks.now) (omega (arith, c.loop-place.auto.place-end, c.loop-place-test.false))
