-- The goal was what the put carries.
use Rattle.std.proofs.Common.{ℤ, FitsSigned, w64, sym, subst}
use Rattle.std.proofs.lemmas.Int.{to_z-of_z}
use Rattle.vms_calls.specs.Common.{Mod}
use Rattle.vms_bench.specs.Common.{Carries, own_of}
use Rattle.vms_bench.proofs.PageCalls.{put-carries}
use Rattle.vms_bench.proofs.changes.exchange_zeros.Goals as goal

pub returns-clause-carries : goal.returns-clause-carries
returns-clause-carries c =
    let fits : FitsSigned w64 c.in-Done.amount = search in
    subst (λ (a : ℤ). Carries c.args.table.now.facts.layout c.args.target.now.counter.number a (own_of c.put.new.pass))
    (sym (to_z-of_z w64 c.in-Done.amount fits))
    (put-carries c.args.table.now.facts.layout c.put.new.pass c.args.pass.now c.args.target.now.counter
    c.zeros-zeros.result c.args.threshold _ Mod c.in-Done.amount c.in-Done.ensures c.requires.looked.nothing)
