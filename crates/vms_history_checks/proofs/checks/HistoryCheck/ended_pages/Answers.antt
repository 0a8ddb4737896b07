-- What the last phase leaves, or what a run begins with.
use Rattle.vms_history_checks.proofs.TakenEvents.{before-phases, in-phase}
use Rattle.vms_history_checks.proofs.WholeSoFar.{first-led, settled-led}
use Rattle.vms_history_checks.proofs.checks.HistoryCheck.ended_pages.Goals as goal

pub returns-in-None : goal.returns-in-None
returns-in-None g c segments hs left at stands whole =
    let header = c.args.header.now in
    let before = before-phases g.W.LaneWalk.Stands g.W.LaneWalk.pressure g.W.LaneWalk.normal header segments hs
    c.args.self.now.phase left at c.in-None.is in
    first-led g.W.LaneWalk.Stands g.W.LaneWalk.pressure g.W.LaneWalk.normal g.met.W.LaneWalk.gives
    g.met.W.LaneWalk.exact header c.requires.header segments stands hs left before.lists before.all
    c.first_pages.result c.first_pages.ensures

pub returns-in-Some : goal.returns-in-Some
returns-in-Some g c segments hs left at stands whole =
    let header = c.args.header.now in
    let here = in-phase g.W.LaneWalk.Stands g.W.LaneWalk.pressure g.W.LaneWalk.normal header segments hs
    c.args.self.now.phase left at c.in-Some.phase c.in-Some.is in
    settled-led g.W.LaneWalk.Stands g.W.LaneWalk.pressure g.W.LaneWalk.normal g.met.W.LaneWalk.gives
    g.met.W.LaneWalk.exact header c.requires.header segments stands hs c.args.self.now.phase left at
    c.in-Some.phase here whole c.settled.result
    (c.settled.ensures header here.within.s here.within.items here.h here.within.checks)
