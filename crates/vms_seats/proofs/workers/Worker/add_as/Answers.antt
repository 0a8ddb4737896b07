-- The goals were what the step asks of the words, that the seat is a worker's after it, and what it made.
use Rattle.std.proofs.Common.{◌+◌, ◌%◌, ◌^◌}
use Rattle.vms_seats.proofs.WorkerCalls.{step_may, step_made, still_worker}
use Rattle.vms_seats.proofs.workers.Worker.add_as.Goals as goal

pub fetch_add-requires : goal.fetch_add-requires
fetch_add-requires g c = step_may
    g.L.Ledger.machine g.L.Ledger.shown c.self.inside.seat c.self.inside.cpu c.self.invariant
    c.args.self.now c.self.view_is c.words.inside.table.shared.table_id c.words.inside.table.shared.key c.args.words.now
    c.words.view_is c.requires.words c.args.place c.requires.place (λ n. (n + c.args.amount) % 2 ^ 64)
    (g.L.Ledger.told c.args.plan.now) c.requires.step g.P.Plan.step c.requires.planned

pub invariant_of-self : goal.invariant_of-self
invariant_of-self g c = still_worker _ _ _ _ c.self.invariant g.P.Plan.step c.fetch_add.result c.fetch_add.ensures

pub returns : goal.returns
returns g c =
    step_made _ _ _ _ c.self.invariant g.P.Plan.step c.fetch_add.result c.fetch_add.ensures
    (g.L.Ledger.told c.args.plan.now) c.requires.planned c.args.self.now c.self.view_is
