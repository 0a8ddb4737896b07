-- What the calls of a change leave.
use Rattle.std.proofs.Common.{◌≡◌, ◌≢◌, ℕ, ℤ, pos, List, ◌∷◌, Option, Some, unwrap_or, refl, sym, ap, ◌∙◌, subst}
use Rattle.vms_calls.specs.Common.{Diffs, CpuId, CounterId, GroupId, Mode, Shape, group_of, place_of, Event, own, Facts}
use Rattle.vms_calls.specs.Common.{Step, LoadT, LoadD, Put, Miss, AddG, AddS, eight_zeros, AddsToPlace, AddsToSystem}
use Rattle.vms_calls.specs.Common.{CarriesNothing, carried_of_item, loaded, pages}
use Rattle.vms_seats.specs.Common.{MadeOne}
use Rattle.vms_words.specs.Common.{OwningPass, HasPut, HasMissed}
use Rattle.vms_bench.specs.declared.changes.Target.{Target}
use Rattle.vms_bench.specs.Common.{Carries, HasLooked, IsTarget, own_of}
use Rattle.vms_bench.proofs.PageChanges.{event, carries-nothing, nothing-loaded, nothing-found, nothing-missed}
use Rattle.vms_bench.proofs.PageChanges.{carries-put, carried-here, added-both, item-carried, found-here, missed-here}
use Rattle.vms_bench.proofs.PageChanges.{loaded-here}

-- what a pass has done itself, after one more step
own-one : (new old : OwningPass) (step : Step) → MadeOne pages new.pass old.pass step
    → own_of new ≡ event old.pass.number step ∷ own_of old
own-one new old step one = ap (own new.pass.seen) one.all.number ∙ one.all.made.made

module _ (facts : Facts) (pass : OwningPass) (target : Target) (is : IsTarget facts.layout target) (z : ℤ) where
  pub adds-place : Carries facts.layout target.counter.number z (own_of pass) → z ≢ pos 0
      → AddsToPlace facts pass.pass.seen pass.pass.number target.counter z
  adds-place carries some = record {
    counter = is.counter;
    carries = carried-here facts.layout pass.pass.number (own_of pass) target.counter.number z carries;
    some = some;
  }

pub adds-system : (facts : Facts) (added old : OwningPass) (target : Target) → IsTarget facts.layout target → (z : ℤ)
    → MadeOne pages added.pass old.pass (AddG target.counter z)
    → Carries facts.layout target.counter.number z (own_of old) → z ≢ pos 0
    → AddsToSystem facts added.pass.seen added.pass.number target.item z
adds-system facts added old target is z one carries some = record {
  item = is.item_known;
  carries = ap (carried_of_item facts.layout target.item.number) (own-one added old (AddG target.counter z) one)
      ∙ item-carried facts.layout old.pass.number (own_of old) target.counter target.item z is.item carries;
  some = some;
}

pub carried-away : (facts : Facts) (new added old : OwningPass) (target : Target) → IsTarget facts.layout target
    → (z : ℤ) → MadeOne pages added.pass old.pass (AddG target.counter z)
    → MadeOne pages new.pass added.pass (AddS target.item z)
    → Carries facts.layout target.counter.number z (own_of old) → CarriesNothing facts.layout (own_of new)
carried-away facts new added old target is z first second carries =
    subst (CarriesNothing facts.layout)
    (sym (own-one new added (AddS target.item z) second
    ∙ ap (λ p. event p (AddS target.item z) ∷ own_of added) first.all.number
    ∙ ap (λ es. event old.pass.number (AddS target.item z) ∷ es) (own-one added old (AddG target.counter z) first)))
    (added-both facts.layout old.pass.number (own_of old) target.counter target.item z is.item carries)

pub carried-none : (shape : Shape) (mine : List (Event Step)) (k : ℕ) (z : ℤ) → z ≡ pos 0 → Carries shape k z mine
    → CarriesNothing shape mine
carried-none shape mine k z none carries =
    carries-nothing shape 0 mine k (subst (λ (a : ℤ). Carries shape k a mine) none carries)

pub put-carries : (shape : Shape) (new old : OwningPass) (k : CounterId) (w : Diffs) (t : ℕ) (delta : ℤ) (how : Mode)
    (amount : ℤ) → HasPut new old k w t delta how amount → CarriesNothing shape (own_of old)
    → Carries shape k.number amount (own_of new)
put-carries shape new old k w t delta how amount put none =
    subst (λ (a : ℤ). Carries shape k.number a (own_of new)) (sym put.carries)
    (subst (Carries shape k.number _) (sym (own-one new old (Put k w t delta how) put.made))
    (carries-put shape old.pass.number (own_of old) k w t delta how none))

pub missed-looked : (shape : Shape) (new old : OwningPass) (target : Target) (w : Diffs) (t : ℕ)
    → HasMissed new old target.counter w → HasLooked shape target w.values t (own_of old)
    → HasLooked shape target eight_zeros t (own_of new)
missed-looked shape new old target w t missed looked =
    let j : GroupId = record { number = group_of target.counter.number } in
    subst (HasLooked shape target eight_zeros t) (sym (own-one new old (Miss j w) missed.made))
    (record {
      as_found = missed-here shape old.pass.number (own_of old) target.cpu j target.counter.number w refl;
      number = looked.number;
      as_loaded = looked.as_loaded;
      nothing = nothing-missed shape old.pass.number (own_of old) j w looked.nothing;
    })

-- a pass owns one CPU
pub same-owner : (who : Option CpuId) (c d : CpuId) → who ≡ Some c → who ≡ Some d → c ≡ d
same-owner who c d is also = ap (λ (o : Option CpuId). unwrap_or o d) (sym is ∙ also)

pub loads-looked : (shape : Shape) (new then old : OwningPass) (target : Target) → IsTarget shape target
    → (t n : ℕ) (w : Diffs) → MadeOne pages then.pass old.pass (LoadT target.place t n)
    → MadeOne pages new.pass then.pass (LoadD target.cpu target.group w) → CarriesNothing shape (own_of old)
    → HasLooked shape target w.values t (own_of new)
loads-looked shape new then old target is t n w first second none =
    let step = LoadT target.place t n in
    subst (HasLooked shape target w.values t) (sym (own-one new then (LoadD target.cpu target.group w) second))
    (record {
      as_found =
          found-here shape then.pass.number (own_of then) target.cpu target.group target.counter.number w is.group;
      number = n;
      as_loaded = ap (loaded (place_of shape target.counter.number)) (own-one then old step first)
          ∙ loaded-here shape old.pass.number (own_of old) target.place target.counter.number t n is.place;
      nothing = nothing-found shape then.pass.number (own_of then) target.cpu target.group w
          (subst (CarriesNothing shape) (sym (own-one then old step first))
          (nothing-loaded shape old.pass.number (own_of old) target.place t n none));
    })
