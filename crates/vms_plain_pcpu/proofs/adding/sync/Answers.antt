-- The steps of a sync.
use Rattle.std.proofs.Common.{◌≡◌, List, pos, ◌+ℤ◌, sym, subst, arith}
use Rattle.std.proofs.lemmas.Int.{ints}
use Rattle.vms_pcpu_core.specs.declared.states.PcpuState.{PcpuState}
use Rattle.vms_pcpu_core.specs.declared.steps.PcpuStep.{PcpuStep}
use Rattle.vms_pcpu_core.specs.Common.{IsSync, count_at, local_at}
use Rattle.vms_plain_pcpu.specs.Common.{LeadsAlone, under_free_locks}
use Rattle.vms_plain_pcpu.proofs.AddSteps.{IsSync-alone, with_local_moved-total}
use Rattle.vms_plain_pcpu.proofs.adding.sync.Goals as goal

pub returns-clause-made : goal.returns-clause-made
returns-clause-made c = λ who.
    subst (λ (next : PcpuState). (steps : List PcpuStep) × IsSync c.args.cpu c.args.counter steps
    × LeadsAlone who steps (under_free_locks c.args.counters.now) (under_free_locks next))
    (sym c.move_local.ensures) (IsSync-alone c.args.counters.now c.args.cpu c.args.counter who)

pub returns-clause-total : goal.returns-clause-total
returns-clause-total c =
    let s = c.args.counters.now in
    let cpu = c.args.cpu in
    let j = c.args.counter in
    let kept = with_local_moved-total s cpu j c.requires.room c.requires.cpu (pos 0) in
    subst (λ (next : PcpuState). count_at next j.number +ℤ local_at next cpu.number j.number
    ≡ count_at s j.number +ℤ local_at s cpu.number j.number)
    (sym c.move_local.ensures) (omega (arith, ints, kept))
