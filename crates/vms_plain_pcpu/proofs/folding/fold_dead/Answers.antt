-- A counter more.
use Rattle.std.proofs.Common.{◌+◌, ◌<◌, sym, subst, arith}
use Rattle.vms_pcpu_core.specs.Common.{counters_of}
use Rattle.vms_plain_pcpu.proofs.MovedLocals.{MovesBelow, MovesBelow-more, MovesBelow-none, HasRoomFor-folded}
use Rattle.vms_plain_pcpu.proofs.folding.fold_dead.Goals as goal

pub loop-number-init : goal.loop-number-init
loop-number-init c = MovesBelow-none c.args.dead c.args.counters.now

pub sync-requires-clause-room : goal.sync-requires-clause-room
sync-requires-clause-room c =
    let m = c.loop-number.number in
    let m_in : m < counters_of c.args.counters.now =
    omega (arith, c.loop-number-test.true, c.len-number-end.ensures.len) in
    HasRoomFor-folded c.args.dead c.args.counters.now m c.loop-number.counters c.loop-number.invariant
    (c.requires.room m m_in)

pub loop-number-preserved : goal.loop-number-preserved
loop-number-preserved c =
    let m = c.loop-number.number in
    let m_in : m < counters_of c.args.counters.now =
    omega (arith, c.loop-number-test.true, c.len-number-end.ensures.len) in
    subst (MovesBelow c.args.dead c.args.counters.now (m + 1)) (sym c.sync.ensures.moved)
    (MovesBelow-more c.args.dead c.args.counters.now m c.loop-number.counters c.loop-number.invariant m_in
    c.requires.cpu (c.requires.room m m_in))
