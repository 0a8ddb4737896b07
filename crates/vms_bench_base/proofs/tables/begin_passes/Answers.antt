-- The goals were that each pass is ready, and that the CPUs after it stay unused.
use Rattle.std.proofs.Common.{◌+◌, [], ◌∷◌, ◌++◌, sym, ◌∙◌, subst, arith}
use Rattle.std.proofs.lemmas.List.Elements.{All-push, All-same}
use Rattle.vms_calls.specs.Common.{CarriesNothing}
use Rattle.vms_bench_base.specs.Common.{IsReady, cpu_number}
use Rattle.vms_bench_base.proofs.ThreadCpus.{cpu_number-rises}
use Rattle.vms_bench_base.proofs.PagePasses.{begun-unused}
use Rattle.vms_bench_base.proofs.ReadyPasses.{none-carried}
use Rattle.vms_bench_base.proofs.tables.begin_passes.Goals as goal

pub loop-thread-preserved : goal.loop-thread-preserved
loop-thread-preserved c =
    let begun = c.cpu_pass.ensures.begun in
    let of = c.loop-thread.invariant.0 in (
      record { table = begun.main.table ∙ of.table; facts = begun.main.facts ∙ of.facts },
      begun-unused c.cpu_pass.new.main c.loop-thread.main c.cpu_pass.result.pass c.cpu_of_thread.result
          (cpu_number c.args.distance c.loop-thread.thread) (cpu_number c.args.distance (c.loop-thread.thread + 1))
          begun c.loop-thread.invariant.1
          (let rises = cpu_number-rises c.args.distance c.loop-thread.thread in omega (arith, rises))
          (let rises = cpu_number-rises c.args.distance c.loop-thread.thread in
          omega (arith, rises, c.cpu_of_thread.ensures)),
      All-same (IsReady c.args.table.now) c.push.new.self.items (c.loop-thread.passes.items ++ c.cpu_pass.result ∷ [])
          c.in_ok-push.ensures.items
          (All-push (IsReady c.args.table.now) c.loop-thread.passes.items c.cpu_pass.result
          c.loop-thread.invariant.2
          (record {
            of = record { table = begun.table ∙ of.table; facts = begun.facts ∙ of.facts };
            cpu = c.cpu_of_thread.result;
            owns = begun.cpu;
            known = (let below = c.requires.cpus c.loop-thread.thread c.loop-thread-test.true in
                omega (arith, below, c.cpu_of_thread.ensures));
            idle = subst (CarriesNothing c.args.table.now.facts.layout) (sym begun.no_steps)
                (none-carried c.args.table.now.facts.layout);
          })),
    )
