-- The goals were what a miss leaves, and what the put carries.
use Rattle.std.proofs.Common.{ℤ, FitsSigned, w64, sym, subst}
use Rattle.std.proofs.lemmas.Int.{to_z-of_z}
use Rattle.vms_calls.specs.Common.{Mod}
use Rattle.vms_bench.specs.Common.{Carries, own_of}
use Rattle.vms_bench.proofs.PageCalls.{put-carries, missed-looked}
use Rattle.vms_bench.proofs.changes.exchange.Goals as goal

pub exchange_zeros-requires-clause-looked : goal.exchange_zeros-requires-clause-looked
exchange_zeros-requires-clause-looked c =
    missed-looked c.args.table.now.facts.layout c.put.new.pass c.args.pass.now c.args.target.now c.args.found.now
    c.args.threshold c.in-Missed.ensures c.requires.looked

pub returns-in-Done-clause-carries : goal.returns-in-Done-clause-carries
returns-in-Done-clause-carries c =
    let fits : FitsSigned w64 c.in-Done.amount = search in
    subst (λ (a : ℤ). Carries c.args.table.now.facts.layout c.args.target.now.counter.number a (own_of c.put.new.pass))
    (sym (to_z-of_z w64 c.in-Done.amount fits))
    (put-carries c.args.table.now.facts.layout c.put.new.pass c.args.pass.now c.args.target.now.counter
    c.args.found.now c.args.threshold _ Mod c.in-Done.amount c.in-Done.ensures c.requires.looked.nothing)
