-- The step by which a pass begins, and the split of the seat after it, keep the rule.
use Rattle.std.proofs.Common.{◌≡◌, ◌≢◌, ℕ, suc, ◌<◌, Bool, true, false, nat_eq, cond, List, [], ◌∷◌, ◌++◌, set}
use Rattle.std.proofs.Common.{slice_index, Option, ◌⊎◌, inl, inr, ⊎_elim, refl, ap, sym, ◌∙◌, subst, arith, eq-eqb}
use mathlib.Core.Option.{some}
use lib.ListN.{get_elem?}
use Rattle.atomic_table.specs.declared.shared.Seat.{Seat}
use Rattle.atomic_table.specs.Table.{Allows, Splits, keeps}
use Rattle.atomic_table.proofs.Lists.{at_set}
use Rattle.vms_history.specs.Common.{CpuId, own, Machine, IsLegal, IsQuiet, Acts, state_after, begun_in, lives_in}
use Rattle.vms_history.specs.Common.{lives_after, owner_in, Works, Begins, Ends}
use Rattle.vms_history.specs.declared.events.Event.{Event}
use Rattle.vms_history.proofs.Common.{Extends-same, Acts-same, live_is_given, lives_in-main}
use Rattle.vms_seats.specs.declared.views.Held.{Held}
use Rattle.vms_seats.specs.declared.views.View.{View}
use Rattle.vms_seats.specs.Common.{MayBeginPass, next_number, Divides, Keeps, FitsHistory, OneSeatEach, IsMainSeat}
use Rattle.vms_seats.specs.Common.{main_of, first_pass, holding, Holds}
use Rattle.vms_seats.proofs.SeatFits.{fits-others, all_fit-set, all_fit-more}
use Rattle.vms_seats.proofs.SeatLists.{one_seat-set, one_seat-more, set_same, Unheld}

-- no step both begins a pass and ends one, or works
begins_not_ends : (q r : ℕ) (who : Option CpuId) → Begins q who ≡ Ends r → ⊥
begins_not_ends q r who same = cc

begins_not_works : (q : ℕ) (who : Option CpuId) → Begins q who ≡ Works → ⊥
begins_not_works q who same = cc

module _ {F K S : Type 0} (machine : Machine F K S) (shown : F → S → List ℕ) (quiet : IsQuiet machine)
    (seat : Seat (Unit {0}) (View F K)) (main : IsMainSeat machine seat) where
  abbrev v : View F K
  v = seat.me.0

  abbrev k : Held K
  k = first_pass v.held

  held : Holds v.held k
  held = subst (λ ks. Holds ks k) (sym main.one) (inl refl)

  -- the main pass begins a pass
  module _ (begins : ℕ → Option CpuId → K)
      (begins_it : (r : ℕ) (o : Option CpuId) → machine.role (begins r o) ≡ Begins r o) (who : Option CpuId)
      (may : MayBeginPass machine (main_of seat) who)
      (words : List ℕ) (views : List (View F K)) (kept : Keeps machine shown v.facts words views)
      (at : get_elem? views seat.id ≡ some v) where
    abbrev h : List (Event K)
    h = kept.history

    abbrev q : ℕ
    q = next_number machine k.seen

    abbrev step : K
    step = begins q who

    abbrev e : Event K
    e = record { caller = 0; step = step }

    fits : FitsHistory machine.role h k
    fits = (kept.fits seat.id v at k held).1

    own_same : own h 0 ≡ own k.seen 0
    own_same = subst (λ n. own h n ≡ own k.seen n) main.is_main.main fits.own_same

    q_is_next : q ≡ suc (begun_in machine.role h)
    q_is_next = ap (λ es. suc (Rattle.vms_history.specs.Passes.begun machine.role es)) (sym own_same)

    differs : machine.role step ≢ Works
    differs works = begins_not_works q who (sym (begins_it q who) ∙ works)

    acts : Acts machine v.facts h 0 (machine.role step)
    acts = subst (Acts machine v.facts h 0) (sym (begins_it q who))
        (Acts-same machine v.facts k.seen h 0 (Begins q who) own_same
        (λ r is. absurd (begins_not_ends q r who is)) (refl, refl, may.may_own, may.free))

    legal : IsLegal machine v.facts (e ∷ h)
    legal = (kept.legal, acts, quiet.asks_nothing v.facts h (state_after machine v.facts h) 0 step differs)

    same_state : state_after machine v.facts (e ∷ h) ≡ state_after machine v.facts h
    same_state = quiet.leaves v.facts (owner_in machine.role h 0) step (state_after machine v.facts h) differs

    lives_now : (r : ℕ) → lives_in machine.role (e ∷ h) r ≡ lives_after (Begins q who) r (lives_in machine.role h r)
    lives_now r = lives_in-main machine.role e h r refl
        ∙ ap (λ t. lives_after t r (lives_in machine.role h r)) (begins_it q who)

    still : (r : ℕ) → lives_in machine.role h r ≡ true → lives_in machine.role (e ∷ h) r ≡ true
    still r lives = lives_now r ∙ by (nat_eq q r)
      where
        by : (b : Bool) → cond b true (lives_in machine.role h r) ≡ true
        by true = refl
        by false = lives

    begun : lives_in machine.role (e ∷ h) q ≡ true
    begun = lives_now q ∙ ap (λ b. cond b true (lives_in machine.role h q)) (eq-eqb q q refl)

    abbrev w : View F K
    w = holding v (record { number = 0; seen = e ∷ h } ∷ record { number = q; seen = e ∷ h } ∷ [])

    -- every pass for which a seat acts has a lower number
    lower : (j : ℕ) (u : View F K) → get_elem? views j ≡ some u → (m : Held K) → Holds u.held m → m.number < q
    lower j u at_j m held_there = ⊎_elim
        (λ zero. omega (arith, zero, q_is_next))
        (λ lives. let given = (live_is_given machine v.facts h m.number kept.legal lives).1 in
        omega (arith, given, q_is_next))
        (kept.fits j u at_j m held_there).1.lives

    here : (m : Held K) → Holds w.held m → (w.facts ≡ v.facts) × FitsHistory machine.role (e ∷ h) m
    here m held_now = ⊎_elim
        (λ same. (
          refl,
          subst (FitsHistory machine.role (e ∷ h)) same (record {
            extends = Extends-same (e ∷ h);
            own_same = refl;
            lives = inl refl;
          }),
        ))
        (λ rest. ⊎_elim
        (λ same. (
          refl,
          subst (FitsHistory machine.role (e ∷ h)) same (record {
            extends = Extends-same (e ∷ h);
            own_same = refl;
            lives = inr begun;
          }),
        ))
        (λ none. absurd none) rest) held_now

    others : (j : ℕ) (u : View F K) → j ≢ seat.id → get_elem? views j ≡ some u → (m : Held K) → Holds u.held m
        → FitsHistory machine.role h m → FitsHistory machine.role (e ∷ h) m
    others j u other at_j m held_there fits_there =
        fits-others machine.role e h m fits_there
        (λ same. other (sym (kept.one_seat seat.id j v u at at_j k m held held_there (main.is_main.main ∙ same))))
        (still m.number)

    from : (m : Held K) → Holds w.held m
        → ((before : Held K) × Holds v.held before × (before.number ≡ m.number)) ⊎ Unheld views m.number
    from m held_now = ⊎_elim
        (λ same. inl (k, held, main.is_main.main ∙ ap (λ (x : Held K). x.number) same))
        (λ rest. ⊎_elim
        (λ same. inr (λ j u at_j l held_there is. let below = lower j u at_j l held_there in
        let new = ap (λ (x : Held K). x.number) same in omega (arith, below, new, is)))
        (λ none. absurd none) rest) held_now

    begins_on : Keeps machine shown v.facts (set words 0 (slice_index words 0)) (set views seat.id w)
    begins_on = record {
      history = e ∷ h;
      legal = legal;
      shows = set_same words 0 ∙ kept.shows ∙ ap (shown v.facts) (sym same_state);
      fits = all_fit-set machine.role v.facts (e ∷ h) h views seat.id w kept.fits here others;
      one_seat = one_seat-set views seat.id v w at kept.one_seat from;
    }

    divides : Divides machine begins who v w
    divides = record {
      seen = e ∷ h;
      view = refl;
      made = record { before = h; extends = fits.extends; own_same = own_same; newest = refl; legal = legal };
    }

  pub main_may_begin : (slots : ℕ) (begins : ℕ → Option CpuId → K)
      → ((r : ℕ) (o : Option CpuId) → machine.role (begins r o) ≡ Begins r o) → (who : Option CpuId)
      → MayBeginPass machine (main_of seat) who
      → Allows (λ s. Keeps machine shown v.facts s.words s.views) slots seat.id seat.me 0 (λ n. n)
      (λ found w. (w.1 ≡ seat.me.1) × Divides machine begins who seat.me.0 w.0)
  main_may_begin slots begins begins_it who may s kept long at small = (
    w begins begins_it who may s.words s.views kept at,
    keeps,
    tt,
    begins_on begins begins_it who may s.words s.views kept at,
    (refl, divides begins begins_it who may s.words s.views kept at),
  )

-- the seat of the main pass is split between it and the pass that began
module _ {F K S : Type 0} (machine : Machine F K S) (shown : F → S → List ℕ) (facts : F) where
  module _ (words : List ℕ) (views : List (View F K)) (id : ℕ) (v : View F K) (a b : Held K)
      (kept : Keeps machine shown facts words views) (at : get_elem? views id ≡ some (holding v (a ∷ b ∷ [])))
      (apart : a.number ≢ b.number) where
    abbrev both : View F K
    both = holding v (a ∷ b ∷ [])

    first_held : (m : Held K) → Holds (a ∷ []) m → Holds (a ∷ b ∷ []) m
    first_held m held = ⊎_elim inl (λ none. absurd none) held

    second_held : (m : Held K) → Holds (b ∷ []) m → Holds (a ∷ b ∷ []) m
    second_held m held = inr held

    left_one : OneSeatEach (set views id (holding v (a ∷ [])))
    left_one = one_seat-set views id both (holding v (a ∷ [])) at kept.one_seat
        (λ m held. inl (m, first_held m held, refl))

    right_unheld : (m : Held K) → Holds (b ∷ []) m → Unheld (set views id (holding v (a ∷ []))) m.number
    right_unheld m held j u at_j l held_there is = ⊎_elim
        (λ here. ⊎_elim (λ mine. ⊎_elim (λ theirs. apart (ap (λ (x : Held K). x.number) mine ∙ is
        ∙ ap (λ (x : Held K). x.number) (sym theirs))) (λ none. none) held)
        (λ none. none) (subst (λ (x : View F K). Holds x.held l) (sym here.1) held_there))
        (λ there. there.0 (sym (kept.one_seat id j both u at there.1 m l (second_held m held) held_there (sym is))))
        (at_set views id j (holding v (a ∷ [])) u at_j)

    pub splits_on : Keeps machine shown facts words (set views id (holding v (a ∷ [])) ++ holding v (b ∷ []) ∷ [])
    splits_on = record {
      history = kept.history;
      legal = kept.legal;
      shows = kept.shows;
      fits = all_fit-more machine.role facts kept.history (set views id (holding v (a ∷ []))) (holding v (b ∷ []))
          (all_fit-set machine.role facts kept.history kept.history views id (holding v (a ∷ [])) kept.fits
          (λ m held. kept.fits id both at m (first_held m held)) (λ j u other at_j m held fits. fits))
          (λ m held. kept.fits id both at m (second_held m held));
      one_seat = one_seat-more (set views id (holding v (a ∷ []))) (holding v (b ∷ [])) left_one right_unheld;
    }

  pub main_splits : (id : ℕ) (v : View F K) (a b : Held K) → a.number ≢ b.number
      → Splits {S = Unit {0}} (λ s. Keeps machine shown facts s.words s.views) id (holding v (a ∷ b ∷ []))
      (holding v (a ∷ [])) (holding v (b ∷ []))
  main_splits id v a b apart s kept at = splits_on s.words s.views id v a b kept at apart
