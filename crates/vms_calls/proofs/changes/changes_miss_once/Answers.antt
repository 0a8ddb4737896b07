use Rattle.std.proofs.Common.{◌≡◌, ◌≤◌, ℕ, ℤ, List, ◌++◌, arith}
use Rattle.vms_history.specs.Common.{Diffs, CounterId, Mode, Shape}
use Rattle.vms_core.specs.declared.steps.Step.{Step}
use Rattle.vms_calls.specs.Common.{Exchanges, Carries, miss_count, won, missed, nothing, amount}
use Rattle.vms_calls.proofs.changes.changes_miss_once.Goals as goal

carrying : (shape : Shape) (k : CounterId) (z : ℤ) (additions : List Step) → Carries shape k z additions
    → miss_count additions ≡ 0
carrying shape k z additions nothing = omega arith
carrying shape k z additions (amount v some) = omega arith

exchanging : (shape : Shape) (k : CounterId) (w last : Diffs) (t : ℕ) (delta z : ℤ) (how : Mode)
    (exchange additions : List Step)
    → Exchanges k w t delta how last exchange → Carries shape k z additions → miss_count (exchange ++ additions) ≤ 1
exchanging shape k w last t delta z how exchange additions won carries =
    omega (arith, carrying shape k z additions carries)
exchanging shape k w last t delta z how exchange additions (missed zeros are) carries =
    omega (arith, carrying shape k z additions carries)

pub returns : goal.returns
returns c = λ shape cpu k delta how steps change. rw change.in_order
    (exchanging shape k change.first change.last change.t delta _ how change.exchange change.additions
    change.exchanges change.carries)
