-- The call gets the limit and the amount that it was given.
use Rattle.std.proofs.Common.{rules, SFits, w64}
use Rattle.std.proofs.lemmas.Int.{to_z-of_z}
use Rattle.vozhkell_c.proofs.event_calls.vozhkell_c_try_percpu_limited_add.Goals as goal

pub returns-in-Ok : goal.returns-in-Ok
returns-in-Ok c =
    let limit_fits : SFits w64 c.args.limit = c.ranges.limit in
    let amount_fits : SFits w64 c.args.amount = c.ranges.amount in
    let made = simp to_z-of_z at c.limited_add-made.ensures in
    search rules
