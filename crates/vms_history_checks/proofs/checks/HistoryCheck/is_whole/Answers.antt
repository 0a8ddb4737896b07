-- The phase is whole exactly if its check says so.
use Rattle.std.proofs.Common.{refl}
use Rattle.vms_history_checks.proofs.TakenEvents.{before-phases, fits-within, in-phase}
use Rattle.vms_history_checks.proofs.checks.HistoryCheck.is_whole.Goals as goal

pub is_whole-requires : goal.is_whole-requires
is_whole-requires g c =
    let accepts = c.requires.1.2 in
    let here = in-phase g.W.LaneWalk.Stands g.W.LaneWalk.pressure g.W.LaneWalk.normal c.requires.0 c.requires.1.0
    c.requires.1.1 c.args.self.now.phase accepts.left accepts.at c.in-Some.phase c.in-Some.is in (
      c.requires.0,
      (
        here.within.s,
        here.within.items,
        here.h,
        fits-within g.W.LaneWalk.Stands g.W.LaneWalk.pressure g.W.LaneWalk.normal c.requires.0 c.requires.1.0 here.older
            here.h c.in-Some.phase accepts.left here.within,
        here.within.checks,
      ),
    )

pub returns-in-None : goal.returns-in-None
returns-in-None g c header segments hs left at =
    let before = before-phases g.W.LaneWalk.Stands g.W.LaneWalk.pressure g.W.LaneWalk.normal header segments hs
    c.args.self.now.phase left at c.in-None.is in
    (λ told. before.whole, λ whole. refl)

pub returns-in-Some : goal.returns-in-Some
returns-in-Some g c header segments hs left at =
    let here = in-phase g.W.LaneWalk.Stands g.W.LaneWalk.pressure g.W.LaneWalk.normal header segments hs
    c.args.self.now.phase left at c.in-Some.phase c.in-Some.is in
    let told = c.is_whole.ensures header here.within.s here.within.items here.h here.within.checks in
    (λ is. here.whole.1 (told.0 is), λ whole. told.1 (here.whole.0 whole))
