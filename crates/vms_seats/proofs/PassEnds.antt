-- The join of two seats, and the step by which the joined pass ends, keep the rule.
use Rattle.std.proofs.Common.{◌≡◌, ◌≢◌, ℕ, true, false, cond, List, [], ◌∷◌, set, slice_index, ◌⊎◌, inl, inr, ⊎_elim}
use Rattle.std.proofs.Common.{refl, ap, sym, ◌∙◌, subst, ne_eqb}
use mathlib.Core.Option.{some}
use lib.ListN.{get_elem?}
use Rattle.atomic_table.specs.Table.{Allows, Joins, keeps}
use Rattle.atomic_table.proofs.Lists.{at_set, set_else}
use Rattle.vms_history.specs.declared.events.Event.{Event}
use Rattle.vms_history.specs.Common.{own, Machine, IsLegal, IsQuiet, Acts, state_after, lives_in, lives_after, owner_in}
use Rattle.vms_history.specs.Common.{Works, Ends}
use Rattle.vms_history.proofs.Common.{Extends-same, lives_in-main}
use Rattle.vms_seats.specs.declared.views.Held.{Held}
use Rattle.vms_seats.specs.declared.views.View.{View}
use Rattle.vms_seats.specs.Common.{Unites, Keeps, FitsHistory, AllFit, OneSeatEach, holding, spent_view, Holds}
use Rattle.vms_seats.proofs.SeatFits.{fits-others, all_fit-set}
use Rattle.vms_seats.proofs.SeatLists.{one_seat-set, set_same, Unheld}

ends_not_works : (q : ℕ) → Ends q ≡ Works → ⊥
ends_not_works q same = cc

module _ {F K S : Type 0} (machine : Machine F K S) (shown : F → S → List ℕ) (facts blank : F) where
  module _ (words : List ℕ) (views : List (View F K)) (id other : ℕ) (v u : View F K) (a b : Held K)
      (kept : Keeps machine shown facts words views) (at : get_elem? views id ≡ some (holding v (a ∷ [])))
      (at_other : get_elem? views other ≡ some (holding u (b ∷ []))) (apart : other ≢ id) where
    abbrev both : View F K
    both = holding v (a ∷ b ∷ [])

    abbrev joined : List (View F K)
    joined = set (set views id both) other (spent_view blank)

    first_fits : (m : Held K) → Holds (a ∷ b ∷ []) m → (v.facts ≡ facts) × FitsHistory machine.role kept.history m
    first_fits m held = ⊎_elim (λ first. kept.fits id (holding v (a ∷ [])) at m (inl first))
        (λ rest. (
          (kept.fits id (holding v (a ∷ [])) at a (inl refl)).0,
          (kept.fits other (holding u (b ∷ [])) at_other m rest).1,
        ))
        held

    all_fit : AllFit machine.role facts kept.history joined
    all_fit = all_fit-set machine.role facts kept.history kept.history (set views id both) other (spent_view blank)
        (all_fit-set machine.role facts kept.history kept.history views id both kept.fits first_fits
        (λ j y others at_j m held fits. fits))
        (λ m held. absurd held) (λ j y others at_j m held fits. fits)

    -- a seat that acts for a pass of the two is theirs
    two_alone : (j : ℕ) (y : View F K) → j ≢ id → j ≢ other → get_elem? views j ≡ some y → (m l : Held K)
        → Holds (a ∷ b ∷ []) m → Holds y.held l → m.number ≡ l.number → ⊥
    two_alone j y not_first not_second at_j m l held held_there same = ⊎_elim
        (λ first. not_first (sym (kept.one_seat id j (holding v (a ∷ [])) y at at_j m l (inl first) held_there same)))
        (λ rest. not_second (sym (kept.one_seat other j (holding u (b ∷ [])) y at_other at_j m l rest held_there same)))
        held

    -- where a pass is held, once the two are joined
    place_of : (j : ℕ) (y : View F K) → get_elem? joined j ≡ some y → (m : Held K) → Holds y.held m
        → ((j ≡ id) × Holds (a ∷ b ∷ []) m) ⊎ ((j ≢ id) × (j ≢ other) × (get_elem? views j ≡ some y))
    place_of j y at_j m held = ⊎_elim
        (λ spent. absurd (subst (λ (x : View F K). Holds x.held m) (sym spent.1) held))
        (λ there. ⊎_elim
        (λ here. inl (here.0, subst (λ (x : View F K). Holds x.held m) (sym here.1) held))
        (λ elsewhere. inr (elsewhere.0, there.0, elsewhere.1))
        (at_set views id j both y there.1))
        (at_set (set views id both) other j (spent_view blank) y at_j)

    one_seat : OneSeatEach joined
    one_seat i j x y at_i at_j m l held_i held_j same = ⊎_elim
        (λ here. ⊎_elim (λ there. here.0 ∙ sym there.0)
        (λ there. absurd (two_alone j y there.0 there.1 there.2 m l here.1 held_j same))
        (place_of j y at_j l held_j))
        (λ here. ⊎_elim
        (λ there. absurd (two_alone i x here.0 here.1 here.2 l m there.1 held_i (sym same)))
        (λ there. kept.one_seat i j x y here.2 there.2 m l held_i held_j same)
        (place_of j y at_j l held_j))
        (place_of i x at_i m held_i)

    joins_on : Keeps machine shown facts words joined
    joins_on = record {
      history = kept.history;
      legal = kept.legal;
      shows = kept.shows;
      fits = all_fit;
      one_seat = one_seat;
    }

  pub seats_join : (id other : ℕ) (v u : View F K) (a b : Held K)
      → Joins {S = Unit {0}} (λ s. Keeps machine shown facts s.words s.views) id (holding v (a ∷ [])) other
      (holding u (b ∷ []))
      (holding v (a ∷ b ∷ [])) (spent_view blank)
  seats_join id other v u a b s kept at apart at_other =
      joins_on s.words s.views id other v u a b kept at
      (sym (set_else s.views id other (holding v (a ∷ b ∷ [])) apart) ∙ at_other) apart

-- the main pass ends the pass for which its seat acts too
module _ {F K S : Type 0} (machine : Machine F K S) (shown : F → S → List ℕ) (quiet : IsQuiet machine)
    (v : View F K) (a b : Held K) (main : a.number ≡ 0) (worker : b.number ≢ 0)
    (ends : ℕ → K) (ends_it : (q : ℕ) → machine.role (ends q) ≡ Ends q)
    (may_end : machine.MayEnd v.facts (own b.seen b.number)) where
  module _ (id : ℕ) (words : List ℕ) (views : List (View F K)) (kept : Keeps machine shown v.facts words views)
      (at : get_elem? views id ≡ some (holding v (a ∷ b ∷ []))) where
    abbrev two : View F K
    two = holding v (a ∷ b ∷ [])

    abbrev h : List (Event K)
    h = kept.history

    abbrev step : K
    step = ends b.number

    abbrev e : Event K
    e = record { caller = 0; step = step }

    main_fits : FitsHistory machine.role h a
    main_fits = (kept.fits id two at a (inl refl)).1

    ending_fits : FitsHistory machine.role h b
    ending_fits = (kept.fits id two at b (inr (inl refl))).1

    own_same : own h 0 ≡ own a.seen 0
    own_same = subst (λ n. own h n ≡ own a.seen n) main main_fits.own_same

    differs : machine.role step ≢ Works
    differs works = ends_not_works b.number (sym (ends_it b.number) ∙ works)

    acts : Acts machine v.facts h 0 (machine.role step)
    acts = subst (Acts machine v.facts h 0) (sym (ends_it b.number)) (
      refl,
      ⊎_elim (λ zero. absurd (worker zero)) (λ lives. lives) ending_fits.lives,
      subst (machine.MayEnd v.facts) (sym ending_fits.own_same) may_end,
    )

    legal : IsLegal machine v.facts (e ∷ h)
    legal = (kept.legal, acts, quiet.asks_nothing v.facts h (state_after machine v.facts h) 0 step differs)

    same_state : state_after machine v.facts (e ∷ h) ≡ state_after machine v.facts h
    same_state = quiet.leaves v.facts (owner_in machine.role h 0) step (state_after machine v.facts h) differs

    still : (r : ℕ) → r ≢ b.number → lives_in machine.role h r ≡ true → lives_in machine.role (e ∷ h) r ≡ true
    still r other lives = lives_in-main machine.role e h r refl
        ∙ ap (λ t. lives_after t r (lives_in machine.role h r)) (ends_it b.number)
        ∙ ap (λ c. cond c false (lives_in machine.role h r)) (ne_eqb b.number r (λ same. other (sym same)))
        ∙ lives

    abbrev w : View F K
    w = holding v (record { number = 0; seen = e ∷ h } ∷ [])

    here : (m : Held K) → Holds w.held m → (w.facts ≡ v.facts) × FitsHistory machine.role (e ∷ h) m
    here m held_now = ⊎_elim
        (λ same. (
          refl,
          subst (FitsHistory machine.role (e ∷ h)) same (record {
            extends = Extends-same (e ∷ h);
            own_same = refl;
            lives = inl refl;
          }),
        ))
        (λ none. absurd none) held_now

    others : (j : ℕ) (u : View F K) → j ≢ id → get_elem? views j ≡ some u → (m : Held K) → Holds u.held m
        → FitsHistory machine.role h m → FitsHistory machine.role (e ∷ h) m
    others j u other at_j m held_there fits_there =
        fits-others machine.role e h m fits_there
        (λ same. other (sym (kept.one_seat id j two u at at_j a m (inl refl) held_there (main ∙ same))))
        (still m.number
        (λ same. other (sym (kept.one_seat id j two u at at_j b m (inr (inl refl)) held_there (sym same)))))

    from : (m : Held K) → Holds w.held m
        → ((before : Held K) × Holds two.held before × (before.number ≡ m.number)) ⊎ Unheld views m.number
    from m held_now = ⊎_elim (λ same. inl (a, inl refl, main ∙ ap (λ (x : Held K). x.number) same))
        (λ none. absurd none) held_now

    ends_on : Keeps machine shown v.facts (set words 0 (slice_index words 0)) (set views id w)
    ends_on = record {
      history = e ∷ h;
      legal = legal;
      shows = set_same words 0 ∙ kept.shows ∙ ap (shown v.facts) (sym same_state);
      fits = all_fit-set machine.role v.facts (e ∷ h) h views id w kept.fits here others;
      one_seat = one_seat-set views id two w at kept.one_seat from;
    }

    unites : Unites machine ends two w
    unites = record {
      seen = e ∷ h;
      view = refl;
      made = record {
        made = record { before = h; extends = main_fits.extends; own_same = own_same; newest = refl; legal = legal };
        knew = ending_fits.extends;
        all_steps = ending_fits.own_same;
      };
    }

  pub main_may_end : (id slots : ℕ)
      → Allows {S = Unit {0}} (λ s. Keeps machine shown v.facts s.words s.views) slots id
      (holding v (a ∷ b ∷ []), []) 0 (λ n. n)
      (λ found w. (w.1 ≡ []) × Unites machine ends (holding v (a ∷ b ∷ [])) w.0)
  main_may_end id slots s kept long at small = (
    w id s.words s.views kept at,
    keeps,
    tt,
    ends_on id s.words s.views kept at,
    (refl, unites id s.words s.views kept at),
  )
