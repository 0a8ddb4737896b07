-- For other crates too: a step of a call, over the facts and the number that its pass had at first, and what a load
-- told.
use Rattle.std.proofs.Common.{◌≡◌, ℕ, ℤ, FitsSigned, w64, to_z, of_z, unsigned_abs, ap, subst, arith}
use Rattle.std.proofs.lemmas.Int.{ints, to_z-of_z}
use Rattle.vms_calls.specs.Common.{CounterId, Facts, ItemId, Step, LoadG, LoadS, pages}
use Rattle.vms_core.specs.Pages.{IsLegal}
use Rattle.vms_core.proofs.Common.{laws-kept}
use Rattle.vms_seats.specs.Common.{Pass, MadeOne, MakesStep}

pub step-at_first : (new mid old : Pass Facts Step) (step : Step) → mid.facts ≡ old.facts → mid.number ≡ old.number
    → MadeOne pages new mid step → MakesStep pages old.facts new.seen mid.seen old.number step
step-at_first new mid old step facts number one =
    subst (λ (p : ℕ). MakesStep pages old.facts new.seen mid.seen p step) number
    (subst (λ (f : Facts). MakesStep pages f new.seen mid.seen mid.number step) facts one.at)

-- the global value of a counter fits a word
pub value-told : (new old : Pass Facts Step) (k : CounterId) (value : ℤ) → MadeOne pages new old (LoadG k value)
    → to_z w64 (of_z w64 value) ≡ value
value-told new old k value one =
    let legal = subst (IsLegal old.facts) one.at.newest one.at.legal in
    let small = (laws-kept old.facts one.at.before legal.0).small.values k.number legal.2.0 in
    let is = ap unsigned_abs legal.2.1 in
    let fits : FitsSigned w64 value = omega (arith, ints, small, is) in
    to_z-of_z w64 value fits

-- so does the system-wide value of an item
pub system-told : (new old : Pass Facts Step) (i : ItemId) (value : ℤ) → MadeOne pages new old (LoadS i value)
    → to_z w64 (of_z w64 value) ≡ value
system-told new old i value one =
    let legal = subst (IsLegal old.facts) one.at.newest one.at.legal in
    let small = (laws-kept old.facts one.at.before legal.0).small.systems i.number legal.2.0 in
    let is = ap unsigned_abs legal.2.1 in
    let fits : FitsSigned w64 value = omega (arith, ints, small, is) in
    to_z-of_z w64 value fits
