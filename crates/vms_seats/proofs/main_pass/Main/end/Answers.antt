-- The goals were what the join and the load ask of the words, that the seat is the main pass's after them, and what the
-- main pass made.
use Rattle.vms_seats.proofs.MainEnds.{end_joins, end_may, end_made}
use Rattle.vms_seats.proofs.main_pass.Main.end.Goals as goal

pub join_seat-requires : goal.join_seat-requires
join_seat-requires g c = end_joins g.L.Ledger.machine g.L.Ledger.shown g.L.Ledger.quiet c.self.inside.seat
    c.self.invariant c.args.self.now c.self.view_is c.words.inside.table.shared.table_id c.words.inside.table.shared.key
    c.args.words.now c.words.view_is c.requires.words.0 c.words.invariant.0 c.worker.inside.seat c.worker.inside.cpu
    c.worker.invariant c.args.worker c.worker.view_is c.requires.words.1 g.L.Ledger.blank g.L.Ledger.ends
    g.L.Ledger.ends_it c.requires.ends

pub load-requires : goal.load-requires
load-requires g c = end_may g.L.Ledger.machine g.L.Ledger.shown g.L.Ledger.quiet c.self.inside.seat
    c.self.invariant c.args.self.now c.self.view_is c.words.inside.table.shared.table_id c.words.inside.table.shared.key
    c.args.words.now c.words.view_is c.requires.words.0 c.words.invariant.0 c.worker.inside.seat c.worker.inside.cpu
    c.worker.invariant c.args.worker c.worker.view_is c.requires.words.1 g.L.Ledger.blank g.L.Ledger.ends
    g.L.Ledger.ends_it c.requires.ends
    c.join_seat.new.seat c.join_seat.ensures.0 c.join_seat.ensures.2

pub returns : goal.returns
returns g c = end_made g.L.Ledger.machine g.L.Ledger.shown g.L.Ledger.quiet c.self.inside.seat
    c.self.invariant c.args.self.now c.self.view_is c.words.inside.table.shared.table_id c.words.inside.table.shared.key
    c.args.words.now c.words.view_is c.requires.words.0 c.words.invariant.0 c.worker.inside.seat c.worker.inside.cpu
    c.worker.invariant c.args.worker c.worker.view_is c.requires.words.1 g.L.Ledger.blank g.L.Ledger.ends
    g.L.Ledger.ends_it c.requires.ends
    c.join_seat.new.seat c.join_seat.ensures.0 c.join_seat.ensures.2 c.load.new.seat c.load.ensures.0
    c.load.ensures.2.0 c.load.ensures.2.1
