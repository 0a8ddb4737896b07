-- A phase too many, and one that is opened.
use Rattle.std.proofs.Common.{refl, rules, ◌+◌}
use Rattle.vms_certifying.proofs.KeptLines.{next-open, over-open}
use Rattle.vms_certifying.proofs.trace_parts.TracePart.open.Goals as goal

pub returns-then-self-ge-MOST_PHASES : goal.returns-then-self-ge-MOST_PHASES
returns-then-self-ge-MOST_PHASES g c = λ lines above keeps.
    over-open g.J.HistoryJudge.Gathers lines above c.args.self.now keeps c.args.number c.args.lane c.args.act
    c.requires.none c.if-self-ge-MOST_PHASES.true

pub returns : goal.returns
returns g c = λ lines above keeps.
    let part = c.args.self.now in
    next-open g.J.HistoryJudge.Gathers lines above part keeps c.args.number c.args.lane c.args.act c.requires.none
    c.if-self-ge-MOST_PHASES.false (record part { items = c.push.new.self; phases = part.phases + 1 }) refl refl
    (search rules)
