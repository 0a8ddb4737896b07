-- A line of the open phase.
use Rattle.std.proofs.Common.{refl, rules, ◌≢◌, []}
use Rattle.vms_certifying.proofs.KeptLines.{next-lane}
use Rattle.vms_certifying.proofs.trace_parts.TracePart.keep.Goals as goal

pub returns : goal.returns
returns g c = λ lines above keeps.
    let part = c.args.self.now in
    let some_item : part.items.items ≢ [] = search rules in
    next-lane g.J.HistoryJudge.Gathers lines above part keeps c.args.number c.args.lane c.args.act some_item
    (record part { items = c.push.new.self }) refl (search rules)
