-- An event more.
use Rattle.std.proofs.Common.{◌+◌, sym, subst, arith}
use Rattle.vms_event_core.specs.Common.{IsEvent}
use Rattle.vms_plain_events.proofs.MovedWords.{MovesBelow, MovesBelow-more}
use Rattle.vms_plain_events.proofs.folding.fold_events.Goals as goal

pub loop-number-preserved : goal.loop-number-preserved
loop-number-preserved c =
    let m = c.loop-number.number in
    let m_in : IsEvent m = omega (arith, c.loop-number-test.true) in
    subst (MovesBelow c.args.from c.args.into c.args.events.now (m + 1)) (sym c.move_word.ensures)
    (MovesBelow-more c.args.from c.args.into c.requires.other c.args.events.now m m_in c.requires.from c.requires.into
    c.loop-number.events c.loop-number.invariant)
