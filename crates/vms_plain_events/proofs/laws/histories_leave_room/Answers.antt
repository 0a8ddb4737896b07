-- What the laws of a history say of its words.
use Rattle.std.proofs.Common.{[], arith}
use Rattle.vms_plain_events.proofs.Rooms.{sum_over-small}
use Rattle.vms_plain_events.proofs.laws.histories_leave_room.Goals as goal

pub returns-clause-cpus : goal.returns-clause-cpus
returns-clause-cpus c facts h n legal within =
    let laws = c.laws_are_kept.ensures facts [] h legal in omega (arith, laws.shape)

pub returns-clause-words : goal.returns-clause-words
returns-clause-words c facts h cpu k legal cpu_in k_in =
    let laws = c.laws_are_kept.ensures facts [] h legal in
    omega (arith, laws.bounds.words cpu k cpu_in k_in, laws.bounds.below)

pub returns-clause-sums : goal.returns-clause-sums
returns-clause-sums c facts h k legal k_in =
    sum_over-small facts h k legal (c.laws_are_kept.ensures facts [] h legal) k_in
