-- The goal was that the pass's CPU is one of the layout.
use Rattle.std.proofs.Common.{◌≡◌, sym, subst}
use Rattle.vms_calls.specs.Common.{CpuId, Shape, IsCpu}
use Rattle.vms_bench.proofs.pages.change_often.Goals as goal

pub of-target-requires-clause-cpu : goal.of-target-requires-clause-cpu
of-target-requires-clause-cpu c =
    let same : c.requires.ready.cpu ≡ c.cpu.result = cc (c.requires.ready.owns, c.cpu.ensures.owns) in
    subst (λ (shape : Shape). IsCpu shape c.cpu.result.number) (sym c.layout.ensures)
    (subst (λ (x : CpuId). IsCpu c.args.table.now.facts.layout x.number) same c.requires.ready.known)
