-- The goal was that the laws hold at each moment of a legal history.
use Rattle.std.proofs.Common.{subst}
use Rattle.vms_group_core.specs.Common.{IsLegal}
use Rattle.vms_group.proofs.laws.totals_are_kept.Goals as goal

pub returns : goal.returns
returns g c moment since =
    let pass = g.P.AnyGroupPass.pass c.args.pass.now in
    c.laws_are_kept.ensures pass.facts since.0 moment (subst (IsLegal pass.facts) since.1 c.has_seen_legal.ensures)
