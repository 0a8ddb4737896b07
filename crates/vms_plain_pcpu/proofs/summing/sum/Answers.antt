-- The steps that find what was summed.
use Rattle.std.proofs.Common.{◌≡◌, ◌+ℤ◌, ◌∙◌, arith}
use Rattle.std.proofs.lemmas.Int.{ints}
use Rattle.vms_history.specs.Common.{present_from}
use Rattle.vms_pcpu_core.specs.Common.{count_at}
use Rattle.vms_plain_pcpu.specs.Common.{locals_over, total_in}
use Rattle.vms_plain_pcpu.proofs.SignedWords.{same_sum}
use Rattle.vms_plain_pcpu.proofs.SumSteps.{IsSum-alone}
use Rattle.vms_plain_pcpu.proofs.summing.sum.Goals as goal

pub returns-clause-made : goal.returns-clause-made
returns-clause-made c =
    let s = c.args.counters.now in
    let states = c.args.states.now in
    let j = c.args.counter.number in
    let count : c.count.result ≡ count_at s j = c.count.ensures in
    let locals : c.locals.result ≡ locals_over s j (present_from 0 states) = c.locals.ensures.sum in
    let small = c.requires.room.count in
    let few = c.locals.ensures.bound in
    let total : c.count.result +ℤ c.locals.result ≡ total_in s states j = omega (arith, ints, count, locals) in
    λ who. IsSum-alone who s c.args.counter states _
    (same_sum c.count.result c.locals.result (omega (arith, ints, count, small)) (omega (arith, few)) ∙ total)
