-- The call gets the limit and the amount that it was given.
use Rattle.std.proofs.Common.{ℤ, subst, of_z, to_z, w64}
use Rattle.std.proofs.lemmas.Int.{to_z-of_z}
use Rattle.vozhkell_c.specs.EventCalls.{IsLimited}
use Rattle.vozhkell_c.specs.HandleCalls.{WithPcpu}
use Rattle.vozhkell_c.proofs.event_calls.limited_add.Goals as goal

pub returns : goal.returns
returns c =
    let called = c.try_percpu_limited_add.ensures in
    let made : ℤ → ℤ → Type 0 = λ limit amount.
    WithPcpu (IsLimited c.args.counter limit amount) c.try_percpu_limited_add.new.self c.args.own.now
    c.try_percpu_limited_add.result in
    subst (λ (limit : ℤ). made limit c.args.amount) (to_z-of_z w64 c.args.limit c.ranges.limit)
    (subst (made (to_z w64 (of_z w64 c.args.limit))) (to_z-of_z w64 c.args.amount c.ranges.amount)
    ((called.made, called.means), called.rest))
