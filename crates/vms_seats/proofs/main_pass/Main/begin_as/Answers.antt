-- The goals were what the load and the split ask of the words, that the two seats are a main pass's and a worker's, and
-- what the main pass made.
use Rattle.std.proofs.Common.{◌∙◌}
use Rattle.vms_seats.proofs.MainBegins.{begin_may, begin_splits, begin_made}
use Rattle.vms_seats.proofs.MainSeats.{seat-at}
use Rattle.vms_seats.proofs.main_pass.Main.begin_as.Goals as goal

pub load-requires : goal.load-requires
load-requires g c = begin_may g.L.Ledger.machine g.L.Ledger.shown g.L.Ledger.quiet c.self.inside.seat c.self.invariant
    c.args.self.now c.self.view_is c.words.inside.table.shared.table_id c.words.inside.table.shared.key c.args.words.now
    c.words.view_is c.requires.words c.words.invariant.0 g.L.Ledger.begins g.L.Ledger.begins_it c.args.cpu
    c.requires.begins g.O.Owner.cpu c.requires.owner

pub split_seat-seat-requires : goal.split_seat-seat-requires
split_seat-seat-requires g c = (
  c.load.ensures.0 ∙ (seat-at c.self.inside.seat c.args.self.now c.self.view_is c.words.inside.table.shared.table_id
      c.words.inside.table.shared.key c.args.words.now c.words.view_is c.requires.words).0,
  c.words.invariant.0,
  begin_splits g.L.Ledger.machine g.L.Ledger.shown g.L.Ledger.quiet c.self.inside.seat c.self.invariant c.args.self.now
      c.self.view_is c.words.inside.table.shared.table_id c.words.inside.table.shared.key c.args.words.now
      c.words.view_is c.requires.words c.words.invariant.0 g.L.Ledger.begins g.L.Ledger.begins_it c.args.cpu
      c.requires.begins g.O.Owner.cpu c.requires.owner c.load.new.seat
      c.load.ensures.2.1,
)

pub returns : goal.returns
returns g c = begin_made g.L.Ledger.machine g.L.Ledger.shown g.L.Ledger.quiet c.self.inside.seat c.self.invariant
    c.args.self.now c.self.view_is c.words.inside.table.shared.table_id c.words.inside.table.shared.key c.args.words.now
    c.words.view_is c.requires.words c.words.invariant.0 g.L.Ledger.begins g.L.Ledger.begins_it c.args.cpu
    c.requires.begins g.O.Owner.cpu c.requires.owner c.load.new.seat
    c.load.ensures.2.1 c.split_seat-seat.new.seat c.split_seat-seat.result c.split_seat-seat.ensures.0
    c.split_seat-seat.ensures.3 c.load.ensures.0 c.split_seat-seat.ensures.2 c.split_seat-seat.ensures.4
    c.load.ensures.2.0
