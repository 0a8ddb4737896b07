-- The goals were that each CPU may be owned, that it has spent nothing, and that the CPUs after it stay unused.
use Rattle.std.proofs.Common.{◌+◌, [], ◌∷◌, ◌++◌, Some, ◌∙◌, ap, sym, subst, arith}
use Rattle.std.proofs.lemmas.List.Elements.{All-push, All-same}
use Rattle.vms_pcpu_core.specs.declared.steps.PcpuFacts.{PcpuFacts}
use Rattle.vms_pcpu_core.specs.Common.{MayOwn, counters_of}
use Rattle.vms_pcpu.specs.declared.passes.PcpuPass.{PcpuPass}
use Rattle.vms_seats.specs.Common.{IsFrom}
use Rattle.vms_bench_base.specs.Common.{cpu_number}
use Rattle.vms_bench_base.proofs.Common.{cpu_number-few, cpu_number-rises}
use Rattle.vms_bench.proofs.LocalPasses.{begun-unused, unused-holds}
use Rattle.vms_bench.proofs.locals.begin_passes.Goals as goal

pub cpu_pass-requires-clause-online : goal.cpu_pass-requires-clause-online
cpu_pass-requires-clause-online c =
    subst (λ (facts : PcpuFacts). MayOwn facts (Some c.cpu_of_thread.result)) (sym c.loop-thread.invariant.0.facts)
    (c.requires.open.online c.cpu_of_thread.result.number
    (let below = cpu_number-few c.args.distance c.loop-thread.thread (omega (arith, c.loop-thread-test.true, c.requires.threads))
    in omega (arith, below, c.cpu_of_thread.ensures)))

pub cpu_pass-requires-clause-volume : goal.cpu_pass-requires-clause-volume
cpu_pass-requires-clause-volume c =
    unused-holds c.loop-thread.main.facts c.loop-thread.main.seen (cpu_number c.args.distance c.loop-thread.thread)
    c.cpu_of_thread.result.number c.in_ok-volume.volume c.loop-thread.invariant.1 (omega (arith, c.cpu_of_thread.ensures))
    (ap (λ (facts : PcpuFacts). counters_of facts.base) c.loop-thread.invariant.0.facts ∙ c.requires.open.eight)
    c.in_ok-volume.ensures

pub loop-thread-preserved : goal.loop-thread-preserved
loop-thread-preserved c =
    let begun = c.cpu_pass.ensures.begun in
    let of = c.loop-thread.invariant.0 in (
      record { table = begun.main.table ∙ of.table; facts = begun.main.facts ∙ of.facts },
      begun-unused c.cpu_pass.new.main c.loop-thread.main c.cpu_pass.result.pass c.cpu_of_thread.result
          (cpu_number c.args.distance c.loop-thread.thread) (cpu_number c.args.distance (c.loop-thread.thread + 1))
          begun c.loop-thread.invariant.1
          (let rises = cpu_number-rises c.args.distance c.loop-thread.thread in omega (arith, rises))
          (let rises = cpu_number-rises c.args.distance c.loop-thread.thread in
          omega (arith, rises, c.cpu_of_thread.ensures)),
      All-same (λ (p : PcpuPass). IsFrom p.pass c.args.table.now) c.push.new.self.items
          (c.loop-thread.passes.items ++ c.cpu_pass.result ∷ []) c.in_ok-push.ensures.items
          (All-push (λ (p : PcpuPass). IsFrom p.pass c.args.table.now) c.loop-thread.passes.items c.cpu_pass.result
          c.loop-thread.invariant.2
          (record { table = begun.table ∙ of.table; facts = begun.facts ∙ of.facts })),
    )
