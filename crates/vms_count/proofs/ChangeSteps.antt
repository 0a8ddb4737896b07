-- A change: when it may put, and what its steps are together.
use Rattle.std.proofs.Common.{◌≡◌, ◌≢◌, ℕ, ◌+◌, ◌≤◌, true, nat_eq, ℤ, pos, List, [], ◌∷◌, ◌++◌, Some, refl, sym, ap}
use Rattle.std.proofs.Common.{◌∙◌, subst, arith, eq-eqb, slice_index_or, slice_set, unsigned_abs}
use Rattle.std.proofs.lemmas.Int.{ints}
use Rattle.vms_calls.specs.Common.{Diffs, CounterId, CpuId, GroupId, ItemId, PlaceId, Mode, Shape, IsLayout, IsCpu}
use Rattle.vms_calls.specs.Common.{IsCounter, IsItem, place_of, group_of, item_of, most_volume, own, after, Carries}
use Rattle.vms_calls.specs.Common.{IsChange, won, missed, Facts, Step, LoadT, LoadD, Put, Miss, AddG, AddS, entry}
use Rattle.vms_calls.specs.Common.{eight_zeros, carried_by, AddsToSystem, CarriesNothing, carried, carried_of_item}
use Rattle.vms_calls.specs.Common.{found, loaded, pages}
use Rattle.vms_base.proofs.Common.{item_of-lt}
use Rattle.vms_calls.proofs.Common.{change-leaves}
use Rattle.vms_core.proofs.Common.{laws-kept}
use Rattle.vms_seats.specs.Common.{Pass, IsLive, Made, MadeOne}
use Rattle.vms_seats.proofs.Common.{calls-none, calls-next, calls-both}
use Rattle.vms_words.specs.Common.{OwningPass, MayPut, HasPut, HasMissed}
use Rattle.vms_count.specs.Common.{CarriesFor, HasLoaded, HasExchanged, HasChanged}
use Rattle.vms_count.proofs.PassEvents.{own-next, carried-next, carried_of_item-next, nothing-next, loaded-load}
use Rattle.vms_count.proofs.PassEvents.{found-load, found-miss}

-- what a put asks, by the layout of the table
pub may-put : (pass : OwningPass) (facts : Facts) → pass.pass.facts ≡ facts
    → (cpu : CpuId) → pass.pass.cpu ≡ Some cpu → (k : CounterId) → IsCounter facts.layout k.number
    → (w : Diffs) → found cpu (group_of k.number) (own pass.pass.seen pass.pass.number) ≡ Some w.values
    → (t : ℕ) → HasLoaded facts.layout pass.pass k t
    → CarriesNothing facts.layout (own pass.pass.seen pass.pass.number)
    → (delta : ℤ) → slice_index_or pass.volume k.number 0 + unsigned_abs delta ≤ most_volume
    → MayPut pass k w t delta
may-put pass facts same cpu owns k k_in w as_found t has nothing delta room = record {
  cpu = cpu;
  owns = owns;
  counter = subst (λ (f : Facts). IsCounter f.layout k.number) (sym same) k_in;
  as_found = as_found;
  number = has.number;
  as_loaded = subst (λ (f : Facts). loaded (place_of f.layout k.number) (own pass.pass.seen pass.pass.number)
      ≡ Some (record { t = t; number = has.number })) (sym same) has.as_loaded;
  nothing_carried = subst (λ (f : Facts). CarriesNothing f.layout (own pass.pass.seen pass.pass.number)) (sym same)
      nothing;
  affordable = room;
}

-- a step other than a load of a threshold leaves what was loaded
module _ (shape : Shape) (new old : Pass Facts Step) (k : CounterId) (t : ℕ) where
  pub loaded-found : (c : CpuId) (j : ℕ) (w : Diffs) → MadeOne pages new old (LoadD c (record { number = j }) w)
      → HasLoaded shape old k t → HasLoaded shape new k t
  loaded-found c j w one has = record {
    number = has.number;
    as_loaded = ap (loaded (place_of shape k.number)) (own-next new old _ one) ∙ has.as_loaded;
  }

  pub loaded-missed : (j : ℕ) (w : Diffs) → MadeOne pages new old (Miss (record { number = j }) w)
      → HasLoaded shape old k t → HasLoaded shape new k t
  loaded-missed j w one has = record {
    number = has.number;
    as_loaded = ap (loaded (place_of shape k.number)) (own-next new old _ one) ∙ has.as_loaded;
  }

-- what a put carries where nothing was carried before
pub carries-put : (shape : Shape) (new old : Pass Facts Step) (k : CounterId) (w : Diffs) (t : ℕ) (delta : ℤ)
    (how : Mode) → MadeOne pages new old (Put k w t delta how) → CarriesNothing shape (own old.seen old.number)
    → CarriesFor shape k.number (carried_by how t (entry w.values k.number) delta) (own new.seen new.number)
carries-put shape new old k w t delta how one nothing = record {
  counter = carried-next new old _ one k.number
      ∙ (let same : nat_eq k.number k.number ≡ true = eq-eqb k.number k.number refl in
      rw same (omega (arith, ints, nothing.counters k.number)));
  item = carried_of_item-next new old _ one shape (item_of shape k.number)
      ∙ (let same : nat_eq (item_of shape k.number) (item_of shape k.number) ≡ true =
      eq-eqb (item_of shape k.number) (item_of shape k.number) refl in
      rw same (omega (arith, ints, nothing.items (item_of shape k.number))));
}

-- after the addition to the place the pass carries the same for the item still
pub adds-system : (facts : Facts) (layout : IsLayout facts.layout) (new old : Pass Facts Step) (k : CounterId)
    (item : ItemId) (amount : ℤ) → item.number ≡ item_of facts.layout k.number
    → MadeOne pages new old (AddG k amount) → CarriesFor facts.layout k.number amount (own old.seen old.number)
    → amount ≢ pos 0 → AddsToSystem facts new.seen new.number item amount
adds-system facts layout new old k item amount is one carries some = record {
  item = subst (IsItem facts.layout) (sym is) (item_of-lt facts.layout layout k.number);
  carries = ap (λ i. carried_of_item facts.layout i (own new.seen new.number)) is
      ∙ carried_of_item-next new old _ one facts.layout (item_of facts.layout k.number)
      ∙ omega (arith, ints, carries.item);
  some = some;
}

-- both additions
pub carried-both : (shape : Shape) (last mid old : Pass Facts Step) (k : CounterId) (item : ItemId) (amount : ℤ)
    → item.number ≡ item_of shape k.number → MadeOne pages mid old (AddG k amount)
    → MadeOne pages last mid (AddS item amount) → amount ≢ pos 0
    → (additions : List Step) × Carries shape k amount additions × Made pages last old additions
carried-both shape last mid old k item amount is first second some = (
  AddG k amount ∷ AddS (record { number = item_of shape k.number }) amount ∷ [],
  Carries.amount amount some,
  calls-next pages last mid old (AddG k amount ∷ []) (AddS (record { number = item_of shape k.number }) amount)
      (subst (λ n. MadeOne pages last mid (AddS (record { number = n }) amount)) is second) first.all,
)

-- no addition of 0
pub carried-none : (shape : Shape) (pass : Pass Facts Step) → IsLive pages pass → (k : CounterId) (amount : ℤ)
    → amount ≡ pos 0 → (additions : List Step) × Carries shape k amount additions × Made pages pass pass additions
carried-none shape pass live k amount none =
    ([], subst (λ z. Carries shape k z []) (sym none) Carries.nothing, calls-none pages pass live)

-- the CPU of a pass is one of the layout
pub known-cpu : (pass : Pass Facts Step) (facts : Facts) → pass.facts ≡ facts → IsLive pages pass
    → (cpu : CpuId) → pass.cpu ≡ Some cpu → IsCpu facts.layout cpu.number
known-cpu pass facts same live cpu owns = subst (λ (f : Facts). IsCpu f.layout cpu.number) same
    ((laws-kept pass.facts pass.seen live.legal).owners pass.number cpu (live.owner ∙ owns)).0

-- a load and a miss move nothing
pub nothing-load : (shape : Shape) (new old : Pass Facts Step) (c : CpuId) (j : GroupId) (w : Diffs)
    → MadeOne pages new old (LoadD c j w) → CarriesNothing shape (own old.seen old.number)
    → CarriesNothing shape (own new.seen new.number)
nothing-load shape new old c j w one = nothing-next new old _ one shape (λ k. refl) (λ i. refl)

pub nothing-threshold : (shape : Shape) (new old : Pass Facts Step) (g : PlaceId) (t a : ℕ)
    → MadeOne pages new old (LoadT g t a) → CarriesNothing shape (own old.seen old.number)
    → CarriesNothing shape (own new.seen new.number)
nothing-threshold shape new old g t a one = nothing-next new old _ one shape (λ k. refl) (λ i. refl)

pub nothing-miss : (shape : Shape) (new old : Pass Facts Step) (j : GroupId) (w : Diffs)
    → MadeOne pages new old (Miss j w) → CarriesNothing shape (own old.seen old.number)
    → CarriesNothing shape (own new.seen new.number)
nothing-miss shape new old j w one = nothing-next new old _ one shape (λ k. refl) (λ i. refl)

-- an exchange of a pass that loaded the threshold, carries nothing and may change the counter by so much
module _ (facts : Facts) (old : OwningPass) (same : old.pass.facts ≡ facts) (cpu : CpuId)
    (owns : old.pass.cpu ≡ Some cpu) (k : CounterId) (k_in : IsCounter facts.layout k.number) (t : ℕ)
    (has : HasLoaded facts.layout old.pass k t)
    (nothing : CarriesNothing facts.layout (own old.pass.seen old.pass.number)) (delta : ℤ)
    (room : slice_index_or old.volume k.number 0 + unsigned_abs delta ≤ most_volume)
    (looked : OwningPass) (group : GroupId) (w : Diffs) (group_is : group.number ≡ group_of k.number)
    (one : MadeOne pages looked.pass old.pass (LoadD cpu group w)) (volume : looked.volume ≡ old.volume) where
  abbrev load : Step
  load = LoadD cpu (record { number = group_of k.number }) w

  loads : MadeOne pages looked.pass old.pass load
  loads = subst (λ n. MadeOne pages looked.pass old.pass (LoadD cpu (record { number = n }) w)) group_is one

  nothing_then : CarriesNothing facts.layout (own looked.pass.seen looked.pass.number)
  nothing_then = nothing-load facts.layout looked.pass old.pass cpu group w one nothing

  has_then : HasLoaded facts.layout looked.pass k t
  has_then = loaded-found facts.layout looked.pass old.pass k t cpu (group_of k.number) w loads has

  pub first-put : MayPut looked k w t delta
  first-put = may-put looked facts (one.all.facts ∙ same) cpu (one.all.cpu ∙ owns) k k_in w
      (found-load looked.pass old.pass cpu (group_of k.number) w loads) t has_then nothing_then delta
      (subst (λ (v : List ℕ). slice_index_or v k.number 0 + unsigned_abs delta ≤ most_volume) (sym volume) room)

  module _ (how : Mode) (new : OwningPass) (amount : ℤ) (put : HasPut new looked k w t delta how amount) where
    pub won-made : HasExchanged new.pass old.pass k t delta how amount
    won-made = record {
      cpu = cpu;
      owns = owns;
      first = w;
      last = w;
      exchange = Put k w t delta how ∷ [];
      exchanges = won;
      made = calls-next pages new.pass looked.pass old.pass (load ∷ []) (Put k w t delta how) put.made loads.all;
      carries = put.carries;
    }

    pub won-carries : CarriesFor facts.layout k.number amount (own new.pass.seen new.pass.number)
    won-carries = subst (λ z. CarriesFor facts.layout k.number z (own new.pass.seen new.pass.number)) (sym put.carries)
        (carries-put facts.layout new.pass looked.pass k w t delta how put.made nothing_then)

    pub won-grown : new.volume ≡ slice_set old.volume k.number
        (slice_index_or old.volume k.number 0 + unsigned_abs delta)
    won-grown = put.grown
        ∙ ap (λ (v : List ℕ). slice_set v k.number (slice_index_or v k.number 0 + unsigned_abs delta)) volume

  -- once the exchange is missed, eight zeros stand until the pass puts
  module _ (lost : OwningPass) (miss : HasMissed lost looked k w) (zeros : Diffs)
      (are : zeros.values ≡ eight_zeros) where
    nothing_lost : CarriesNothing facts.layout (own lost.pass.seen lost.pass.number)
    nothing_lost = nothing-miss facts.layout lost.pass looked.pass (record { number = group_of k.number }) w miss.made
        nothing_then

    pub second-put : MayPut lost k zeros t delta
    second-put = may-put lost facts (miss.made.all.facts ∙ one.all.facts ∙ same) cpu
        (miss.made.all.cpu ∙ one.all.cpu ∙ owns) k k_in zeros
        (found-miss lost.pass looked.pass cpu (group_of k.number) w miss.made ∙ ap Some (sym are)) t
        (loaded-missed facts.layout lost.pass looked.pass k t (group_of k.number) w miss.made has_then) nothing_lost
        delta
        (subst (λ (v : List ℕ). slice_index_or v k.number 0 + unsigned_abs delta ≤ most_volume)
        (sym (miss.volume ∙ volume)) room)

    module _ (how : Mode) (new : OwningPass) (amount : ℤ) (put : HasPut new lost k zeros t delta how amount) where
      pub missed-made : HasExchanged new.pass old.pass k t delta how amount
      missed-made = record {
        cpu = cpu;
        owns = owns;
        first = w;
        last = zeros;
        exchange = Miss (record { number = group_of k.number }) w ∷ Put k zeros t delta how ∷ [];
        exchanges = missed zeros are;
        made = calls-next pages new.pass lost.pass old.pass (load ∷ Miss (record { number = group_of k.number }) w ∷ [])
            (Put k zeros t delta how) put.made
            (calls-next pages lost.pass looked.pass old.pass (load ∷ [])
            (Miss (record { number = group_of k.number }) w)
            miss.made loads.all);
        carries = put.carries;
      }

      pub missed-carries : CarriesFor facts.layout k.number amount (own new.pass.seen new.pass.number)
      missed-carries =
          subst (λ z. CarriesFor facts.layout k.number z (own new.pass.seen new.pass.number)) (sym put.carries)
          (carries-put facts.layout new.pass lost.pass k zeros t delta how put.made nothing_lost)

      pub missed-grown : new.volume
          ≡ slice_set old.volume k.number (slice_index_or old.volume k.number 0 + unsigned_abs delta)
      missed-grown = put.grown
          ∙ ap (λ (v : List ℕ). slice_set v k.number (slice_index_or v k.number 0 + unsigned_abs delta))
          (miss.volume ∙ volume)

-- a whole change
pub changed-whole : (shape : Shape) (last mid looked old : Pass Facts Step) (k : CounterId) (t number : ℕ) (delta : ℤ)
    (how : Mode) (amount : ℤ) (place : PlaceId) → place.number ≡ place_of shape k.number
    → MadeOne pages looked old (LoadT place t number)
    → HasExchanged mid looked k t delta how amount
    → ((additions : List Step) × Carries shape k amount additions × Made pages last mid additions)
    → HasChanged shape last old k delta how
changed-whole shape last mid looked old k t number delta how amount place at load has carried = record {
  cpu = has.cpu;
  owns = sym load.all.cpu ∙ has.owns;
  steps = steps;
  change = change;
  made = calls-both pages last mid old (loads ++ has.exchange) carried.0 carried.2
      (calls-both pages mid looked old (LoadT (record { number = place_of shape k.number }) t number ∷ [])
      (LoadD has.cpu (record { number = group_of k.number }) has.first ∷ has.exchange) has.made
      (subst (λ n. MadeOne pages looked old (LoadT (record { number = n }) t number)) at load).all);
}
  where
    loads : List Step
    loads = LoadT (record { number = place_of shape k.number }) t number
        ∷ LoadD has.cpu (record { number = group_of k.number }) has.first ∷ []

    steps : List Step
    steps = (loads ++ has.exchange) ++ carried.0

    change : IsChange shape has.cpu k delta how steps
    change = record {
      t = t;
      number = number;
      first = has.first;
      last = has.last;
      exchange = has.exchange;
      additions = carried.0;
      exchanges = has.exchanges;
      carries = subst (λ z. Carries shape k z carried.0) has.carries carried.1;
      in_order = refl;
    }

-- a pass that carried nothing carries nothing after a change
pub changed-nothing : (shape : Shape) (new old : Pass Facts Step) (k : CounterId) (delta : ℤ) (how : Mode)
    → HasChanged shape new old k delta how
    → CarriesNothing shape (own old.seen old.number) → CarriesNothing shape (own new.seen new.number)
changed-nothing shape new old k delta how has nothing =
    let leaves = change-leaves shape has.cpu k delta how has.steps has.change old.number (own old.seen old.number) in
    let mine : own new.seen new.number ≡ after old.number has.steps (own old.seen old.number) =
    ap (own new.seen) has.made.number ∙ has.made.made.made in
    record {
      counters = λ l. ap (carried l) mine ∙ leaves.carries.counters l ∙ nothing.counters l;
      items = λ i. ap (carried_of_item shape i) mine ∙ leaves.carries.items i ∙ nothing.items i;
    }

-- what the pass loaded, once it has loaded a threshold
pub has-loaded : (shape : Shape) (new old : Pass Facts Step) (k : CounterId) (place : PlaceId) (t number : ℕ)
    → place.number ≡ place_of shape k.number → MadeOne pages new old (LoadT place t number) → HasLoaded shape new k t
has-loaded shape new old k place t number at one = record {
  number = number;
  as_loaded = subst (λ n. loaded n (own new.seen new.number) ≡ Some (record { t = t; number = number })) at
      (loaded-load new old place.number t number one);
}
