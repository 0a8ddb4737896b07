-- The goals were that each CPU may be owned, and that the CPUs after it stay unused.
use Rattle.std.proofs.Common.{◌+◌, [], ◌∷◌, ◌++◌, Some, ◌∙◌, sym, subst, arith}
use Rattle.std.proofs.lemmas.List.Elements.{All-push, All-same}
use Rattle.vms_event_core.specs.declared.steps.EventFacts.{EventFacts}
use Rattle.vms_event_core.specs.Common.{MayOwn}
use Rattle.vms_event.specs.declared.passes.EventPass.{EventPass}
use Rattle.vms_seats.specs.Common.{IsFrom}
use Rattle.vms_bench_base.specs.Common.{cpu_number}
use Rattle.vms_bench_base.proofs.Common.{cpu_number-few, cpu_number-rises}
use Rattle.vms_bench.proofs.EventPasses.{begun-unused}
use Rattle.vms_bench.proofs.events.begin_passes.Goals as goal

pub cpu_pass-requires-clause-online : goal.cpu_pass-requires-clause-online
cpu_pass-requires-clause-online c =
    subst (λ (facts : EventFacts). MayOwn facts (Some c.cpu_of_thread.result)) (sym c.loop-thread.invariant.0.facts)
    (c.requires.online c.cpu_of_thread.result.number
    (let below = cpu_number-few c.args.distance c.loop-thread.thread (omega (arith, c.loop-thread-test.true, c.requires.threads))
    in omega (arith, below, c.cpu_of_thread.ensures)))

pub loop-thread-preserved : goal.loop-thread-preserved
loop-thread-preserved c =
    let begun = c.cpu_pass.ensures.begun in
    let of = c.loop-thread.invariant.0 in (
      record { table = begun.main.table ∙ of.table; facts = begun.main.facts ∙ of.facts },
      begun-unused c.cpu_pass.new.main c.loop-thread.main c.cpu_pass.result.pass c.cpu_of_thread.result
          (cpu_number c.args.distance c.loop-thread.thread) (cpu_number c.args.distance (c.loop-thread.thread + 1))
          begun c.loop-thread.invariant.1
          (let rises = cpu_number-rises c.args.distance c.loop-thread.thread in omega (arith, rises))
          (let rises = cpu_number-rises c.args.distance c.loop-thread.thread in
          omega (arith, rises, c.cpu_of_thread.ensures)),
      All-same (λ (p : EventPass). IsFrom p.pass c.args.table.now) c.push.new.self.items
          (c.loop-thread.passes.items ++ c.cpu_pass.result ∷ []) c.in_ok-push.ensures.items
          (All-push (λ (p : EventPass). IsFrom p.pass c.args.table.now) c.loop-thread.passes.items c.cpu_pass.result
          c.loop-thread.invariant.2
          (record { table = begun.table ∙ of.table; facts = begun.facts ∙ of.facts })),
    )
