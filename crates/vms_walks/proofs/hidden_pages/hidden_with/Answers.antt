-- The sum over all CPUs.
use Rattle.std.proofs.Common.{ap, arith}
use Rattle.vms_world.specs.Common.{Shape}
use Rattle.vms_walks.proofs.RaisedPeaks.{sum-over_all}
use Rattle.vms_walks.proofs.hidden_pages.hidden_with.Goals as goal

pub returns-clause-value : goal.returns-clause-value
returns-clause-value g c = λ facts p h same legal keeps.
    sum-over_all facts p c.args.zone.number c.args.threshold c.args.online.now.flags h c.loop-number.sum
    c.loop-number.number c.args.layout.now.cpus (c.loop-number.invariant.0 facts h same legal keeps)
    (omega (arith, c.cpus-number-end.ensures.value)) (ap (λ (s : Shape). s.cpus) same)
