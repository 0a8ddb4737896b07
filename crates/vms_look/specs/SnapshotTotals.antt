-- What a snapshot tells that a pass took.
use Rattle.std.specs.Prelude.{ℕ}
use Rattle.vms_calls.specs.Common.{CounterId, Facts, Step}
use Rattle.vms_near.specs.Snapshots.{SumsNearly}
use Rattle.vms_seats.specs.Common.{Pass}

-- a snapshot of counter k, which the pass took between what it had seen and what it has seen then
abbrev pub SumsTruly : (new old : Pass Facts Step) → CounterId → (answer : ℕ) → Type 0
SumsTruly new old k answer = SumsNearly old.facts new.seen old.seen old.number k answer
