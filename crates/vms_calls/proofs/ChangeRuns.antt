-- The steps of a change meet their conditions in a row.
use Rattle.std.proofs.Common.{◌≡◌, ℕ, ◌+◌, ◌≤◌, nat_eq, true, ℤ, List, [], ◌∷◌, ◌++◌, Some, refl, sym, ap, ◌∙◌, subst}
use Rattle.std.proofs.Common.{arith, eq-eqb, unsigned_abs}
use Rattle.std.proofs.lemmas.Int.{ints}
use Rattle.vms_history.specs.Common.{Diffs, CounterId, CpuId, Mode, IsLayout, IsCounter, place_of, group_of, item_of}
use Rattle.vms_history.specs.Common.{own, after, owner_in, most_volume}
use Rattle.vms_history.proofs.Common.{own-mine, own-after, base_can_begin}
use Rattle.vms_core.specs.declared.steps.Facts.{Facts}
use Rattle.vms_core.specs.declared.steps.Step.{Step}
use Rattle.vms_core.specs.declared.steps.Step.TheVariants.{LoadT, LoadD, Put, Miss, AddG}
use Rattle.vms_calls.specs.Common.{Carries, Exchanges, IsChange, nothing, amount, won, missed, MakesChange}
use Rattle.vms_core.specs.Common.{entry, carried_by, CarriesNothing, carried, carried_of_item, found, loaded, pages}
use Rattle.vms_core.specs.Common.{History, role, spent}
use Rattle.vms_calls.proofs.CallerLaws.{spent-no_put}
use Rattle.vms_calls.proofs.MayBegin.{call-begins}
use Rattle.vms_calls.proofs.Agreement.{event}
use Rattle.vms_base.proofs.Common.{place_of-lt, group_of-lt, item_of-lt}
use Rattle.vms_calls.proofs.StepRuns.{Runs, Exchanging, runs-may}

module _ (facts : Facts) (layout : IsLayout facts.layout) (p : ℕ) (cpu : CpuId) (k : CounterId)
    (k_in : IsCounter facts.layout k.number) where
  -- a change carries an amount for its counter and item, which is added to both
  additions-run : (z : ℤ) (steps : List Step) (g : History) → carried k.number (own g p) ≡ z
      → carried_of_item facts.layout (item_of facts.layout k.number) (own g p) ≡ z → Carries facts.layout k z steps
      → Runs facts p (Some cpu) steps g (λ now. Unit {0})
  additions-run z steps g counter item nothing = tt
  additions-run z steps g counter item (amount a some) = (
    λ knows. record { counter = k_in; carries = counter; some = some },
    λ knows told. (
      λ knows. record {
        item = item_of-lt facts.layout layout k.number;
        carries = ap (carried_of_item facts.layout (item_of facts.layout k.number))
            (own-mine (event facts p (AddG k a)) g p refl)
            ∙ omega (arith, ints, item);
        some = some;
      },
      λ knows told. tt,
    ),
  )

  module _ (h : History) (delta : ℤ) (how : Mode) (carries_none : CarriesNothing facts.layout (own h p))
      (affordable : spent h cpu.number k.number + unsigned_abs delta ≤ most_volume) (t number : ℕ) (first : Diffs) where
    abbrev loads : List Step
    loads = LoadT (record { number = place_of facts.layout k.number }) t number ∷ LoadD cpu
        (record { number = group_of k.number }) first ∷ []

    abbrev looked : History
    looked = after p loads h

    -- what the pass may exchange after further steps, `more`, that put nothing
    exchanging : (g more : History) (w : Diffs) → owner_in role g p ≡ Some cpu → own g p ≡ more
        → found cpu (group_of k.number) more ≡ Some w.values
        → loaded (place_of facts.layout k.number) more ≡ Some (record { t = t; number = number })
        → CarriesNothing facts.layout more → spent g cpu.number k.number ≡ spent h cpu.number k.number
        → Exchanging facts p g k w t delta
    exchanging g more w owner mine as_found as_loaded none same = record {
      cpu = cpu;
      owner = owner;
      counter = k_in;
      as_found = ap (found cpu (group_of k.number)) mine ∙ as_found;
      number = number;
      as_loaded = ap (loaded (place_of facts.layout k.number)) mine ∙ as_loaded;
      nothing_carried = subst (CarriesNothing facts.layout) (sym mine) none;
      affordable = rw same affordable;
    }

    -- what a put carries where nothing was carried before
    module _ (g more : History) (w : Diffs) (mine : own g p ≡ more) (none : CarriesNothing facts.layout more) where
      own_now : own (event facts p (Put k w t delta how) ∷ g) p ≡ event facts p (Put k w t delta how) ∷ more
      own_now = own-mine (event facts p (Put k w t delta how)) g p refl
          ∙ ap (λ es. event facts p (Put k w t delta how) ∷ es) mine

      put-counter : carried k.number (own (event facts p (Put k w t delta how) ∷ g) p)
          ≡ carried_by how t (entry w.values k.number) delta
      put-counter = ap (carried k.number) own_now
          ∙ (let same : nat_eq k.number k.number ≡ true = eq-eqb k.number k.number refl in
          rw same (omega (arith, ints, none.counters k.number)))

      put-item : carried_of_item facts.layout (item_of facts.layout k.number)
          (own (event facts p (Put k w t delta how) ∷ g) p)
          ≡ carried_by how t (entry w.values k.number) delta
      put-item = ap (carried_of_item facts.layout (item_of facts.layout k.number)) own_now
          ∙ (let same : nat_eq (item_of facts.layout k.number) (item_of facts.layout k.number) ≡ true =
          eq-eqb (item_of facts.layout k.number) (item_of facts.layout k.number) refl in
          rw same (omega (arith, ints, none.items (item_of facts.layout k.number))))

    abbrev seen : History
    seen = event facts p (LoadD cpu (record { number = group_of k.number }) first)
        ∷ event facts p (LoadT (record { number = place_of facts.layout k.number }) t number) ∷ own h p

    mine : own looked p ≡ seen
    mine = own-after p loads h

    found_there : found cpu (group_of k.number) seen ≡ Some first.values
    found_there = rw (eq-eqb cpu.number cpu.number refl, eq-eqb (group_of k.number) (group_of k.number) refl) refl

    loaded_there : loaded (place_of facts.layout k.number) seen ≡ Some (record { t = t; number = number })
    loaded_there = rw (eq-eqb (place_of facts.layout k.number) (place_of facts.layout k.number) refl) refl

    none_yet : CarriesNothing facts.layout seen
    none_yet = record {
      counters = λ l. omega (arith, ints, carries_none.counters l);
      items = λ i. omega (arith, ints, carries_none.items i);
    }

    spent_yet : spent looked cpu.number k.number ≡ spent h cpu.number k.number
    spent_yet = spent-no_put p loads h (tt, (tt, tt)) cpu.number k.number

    exchange-run : (last : Diffs) (exchange additions : List Step) → Exchanges k first t delta how last exchange
        → Carries facts.layout k (carried_by how t (entry last.values k.number) delta) additions
        → Runs facts p (Some cpu) (exchange ++ additions) looked (λ now. Unit {0})
    exchange-run last exchange additions won carries = (
      λ knows. exchanging looked seen first knows.owner mine found_there loaded_there none_yet spent_yet,
      λ knows told. additions-run (carried_by how t (entry first.values k.number) delta) additions
          (event facts p (Put k first t delta how) ∷ looked)
          (put-counter looked seen first mine none_yet) (put-item looked seen first mine none_yet) carries,
    )
    exchange-run last exchange additions (missed zeros are) carries =
        let miss : Step = Miss (record { number = group_of k.number }) first in
        let lost : History = event facts p miss ∷ looked in
        let then_seen : History = event facts p miss ∷ seen in
        let mine_then : own lost p ≡ then_seen = own-mine (event facts p miss) looked p refl
        ∙ ap (λ es. event facts p miss ∷ es) mine in
        let none_then : CarriesNothing facts.layout then_seen = record {
          counters = λ l. omega (arith, ints, none_yet.counters l);
          items = λ i. omega (arith, ints, none_yet.items i);
        } in (
          λ knows. record {
            k = k;
            t = t;
            delta = delta;
            exchanging =
                exchanging looked seen first knows.owner mine found_there loaded_there none_yet spent_yet;
            group = refl;
          },
          λ knows told. (
            λ knows. exchanging lost then_seen zeros knows.owner mine_then
                (rw (eq-eqb (group_of k.number) (group_of k.number) refl) (ap Some (sym are)))
                loaded_there none_then
                (spent-no_put p (miss ∷ []) looked (tt, tt) cpu.number k.number ∙ spent_yet),
            λ knows told. additions-run (carried_by how t (entry zeros.values k.number) delta) additions
                (event facts p (Put k zeros t delta how) ∷ lost)
                (put-counter lost then_seen zeros mine_then none_then)
                (put-item lost then_seen zeros mine_then none_then) carries,
          ),
        )

pub change-may : MakesChange
change-may facts h p cpu k delta how may =
    let layout = (base_can_begin pages facts h may.legal).layout in
    call-begins facts p h (λ steps. IsChange facts.layout cpu k delta how steps) (λ steps change.
    runs-may facts p h (record { legal = may.legal; lives = may.lives }) steps
    (subst (λ who. Runs facts p who steps h (λ now. Unit {0})) (sym may.owner)
    (subst (λ ks. Runs facts p (Some cpu) ks h (λ now. Unit {0})) (sym change.in_order) (
      λ knows. (place_of-lt facts.layout layout k.number may.counter_known, (cpu, knows.owner)),
      λ knows told. (
        λ knows. (may.cpu_known, group_of-lt facts.layout layout k.number may.counter_known),
        λ knows told. exchange-run facts layout p cpu k may.counter_known h delta how may.nothing_carried
            may.affordable change.t change.number
            change.first change.last change.exchange change.additions change.exchanges change.carries,
      ),
    ))))
