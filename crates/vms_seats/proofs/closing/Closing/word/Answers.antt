-- The goal was that the word is the one that shows the state.
use Rattle.std.proofs.Common.{◌≡◌, ◌∙◌, ap, sym, subst, Some, slice_get}
use Rattle.std.specs.Slots.{slots_items}
use Rattle.vms_history.specs.Common.{state_after}
use Rattle.vms_seats.specs.Common.{Phase}
use Rattle.vms_seats.proofs.SeatLists.{got_at}
use Rattle.vms_seats.proofs.closing.Closing.word.Goals as goal

pub returns : goal.returns
returns g c = subst
    (λ (phase : Phase g.row.L-Facts.Denot g.row.L-Step.Denot).
    slice_get (g.L.Ledger.shown phase.facts (state_after g.L.Ledger.machine phase.facts phase.events)) c.args.place
    ≡ Some c.word.result)
    c.self.view_is
    (ap (λ words. slice_get words c.args.place) (sym c.self.invariant.2.shows)
    ∙ got_at (slots_items c.self.inside.words.words) c.args.place c.word.result c.word.ensures)
