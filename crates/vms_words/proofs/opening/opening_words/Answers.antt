-- The goals were that the rows follow what is of no CPU, and end where the words end.
use Rattle.std.proofs.Common.{ap, ◌∙◌, arith}
use Rattle.vms_words.specs.Common.{first_words}
use Rattle.vms_words.proofs.Blocks.{are_blocks}
use Rattle.vms_words.proofs.OpeningWords.{rows-all}
use Rattle.vms_words.proofs.opening.opening_words.Goals as goal

pub loop-number-init : goal.loop-number-init
loop-number-init c =
    c.in_ok-push_shared.ensures ∙ ap (first_words c.args.state.now c.args.blocks.now) (omega arith)

pub returns : goal.returns
returns c =
    rows-all c.args.layout.now c.args.blocks.now
    (are_blocks c.args.layout.now c.args.blocks.now c.requires.laid) c.args.state.now c.loop-number.number
    c.loop-number.words.items (omega (arith, c.loop-number.auto.number-end, c.cpus-number-end.ensures.value))
    (omega (arith, c.loop-number-test.false, c.cpus-number-end.ensures.value)) c.loop-number.invariant
