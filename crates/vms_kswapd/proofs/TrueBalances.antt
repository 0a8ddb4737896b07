-- What a balance test and a turn tell of each zone that failed.
use Rattle.std.proofs.Common.{◌≡◌, ℕ, List, subst, sym}
use Rattle.vms_calls.specs.Common.{Facts, HasMade, Header, IsBalanceTest, IsTurn, PlaceId, State, Step, ZoneSize}
use Rattle.vms_calls.specs.Common.{facts_of, pages}
use Rattle.vms_calls.specs.declared.answers.Balance.{Balance}
use Rattle.vms_calls.specs.declared.answers.Balance.TheVariants.{No, Yes}
use Rattle.vms_drift.specs.Moments.{MadeSince}
use Rattle.vms_kswapd.specs.Common.{NamesPassed, YesPassed}
use Rattle.vms_kswapd.proofs.TurnSteps.{facts-are}
use Rattle.vms_near.specs.Balances.{BalanceIsTrue}
use Rattle.vms_near.proofs.Turns.{balance-is_true, turn-is_true}
use Rattle.vms_seats.specs.Common.{Made, Pass}

-- what a yes says and what a no says
pub names-both : (header : Header) (new old : Pass Facts Step) (n : PlaceId) (order most : ℕ) (answer : Balance)
    → YesPassed header new old n order most answer
    → BalanceIsTrue header old.facts.base new.seen old.seen old.number n order most answer
    → NamesPassed header new old n order most answer
names-both header new old n order most (Yes g verdict) passed is = passed
names-both header new old n order most No passed is = is

pub names-yes : (header : Header) (new old : Pass Facts Step) (n : PlaceId) (order most : ℕ) (answer : Balance)
    → NamesPassed header new old n order most answer → YesPassed header new old n order most answer
names-yes header new old n order most (Yes g verdict) names = names
names-yes header new old n order most No names = tt

-- the steps that a pass made, over the facts of the header
since : (header : Header) (new old : Pass Facts Step) (steps : List Step) → header.layout ≡ old.facts.layout
    → header.sizes ≡ old.facts.sizes → Made pages new old steps
    → MadeSince (facts_of header old.facts.base) new.seen old.seen old.number steps
since header new old steps layout sizes made =
    subst (λ (f : Facts). MadeSince f new.seen old.seen old.number steps)
    (sym (facts-are header old.facts layout sizes))
    (record { legal = made.made.legal; extends = made.made.extends; made = made.made.made })

pub balances-truly : (header : Header) (new old : Pass Facts Step) (n : PlaceId) (order most : ℕ) (steps : List Step)
    (answer : Balance) → header.layout ≡ old.facts.layout → header.sizes ≡ old.facts.sizes
    → IsBalanceTest header n order most steps answer → Made pages new old steps
    → BalanceIsTrue header old.facts.base new.seen old.seen old.number n order most answer
balances-truly header new old n order most steps answer layout sizes is made =
    balance-is_true header old.facts.base n order most old.number new.seen old.seen steps answer is
    (since header new old steps layout sizes made)

pub turns-truly : (header : Header) (pressure normal : ZoneSize → ℕ → ℕ → Type 0) (new old : Pass Facts Step)
    (n : PlaceId) (order most : ℕ) (steps : List Step) (answer : Balance) → header.layout ≡ old.facts.layout
    → header.sizes ≡ old.facts.sizes
    → IsTurn header old.facts.base pressure normal n order most old.number old.seen steps answer
    → Made pages new old steps
    → BalanceIsTrue header old.facts.base new.seen old.seen old.number n order most answer
turns-truly header pressure normal new old n order most steps answer layout sizes is made =
    turn-is_true header old.facts.base pressure normal n order most old.number new.seen old.seen steps answer is
    (since header new old steps layout sizes made)
