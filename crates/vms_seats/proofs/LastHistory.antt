-- The split of a seat that remembers what the main pass had seen, and what stands when the words are closed.
use Rattle.std.proofs.Common.{◌≡◌, ℕ, ◌<◌, false, List, [], ◌∷◌, ◌++◌, inl, refl, ap, sym, ◌∙◌, subst}
use mathlib.Core.Option.{some}
use lib.ListN.{get_elem?}
use Rattle.atomic_table.specs.declared.shared.Seat.{Seat}
use Rattle.atomic_table.specs.Seated.{TableId}
use Rattle.atomic_table.specs.Table.{State, Me, Splits, Final, Seen}
use Rattle.atomic_table.proofs.Lists.{set_again}
use Rattle.vms_history.specs.Common.{own, Machine, IsLegal, IsComplete, state_after, lives_in}
use Rattle.vms_history.proofs.Common.{own-on_top, nothing_follows}
use Rattle.vms_seats.specs.declared.views.Held.{Held}
use Rattle.vms_seats.specs.declared.views.View.{View}
use Rattle.vms_seats.specs.Common.{Keeps, FitsHistory, Pass, Shared, IsFrom, IsClosing, IsMainSeat, main_of, first_pass}
use Rattle.vms_seats.specs.Common.{witness_of, Holds}
use Rattle.vms_seats.proofs.SeatFits.{all_fit-more}
use Rattle.vms_seats.proofs.SeatLists.{one_seat-more}

module _ {F K S : Type 0} (machine : Machine F K S) (shown : F → S → List ℕ) (facts : F) where
  witness_on : (words : List ℕ) (views : List (View F K)) (w : View F K) → w.held ≡ []
      → Keeps machine shown facts words views → Keeps machine shown facts words (views ++ w ∷ [])
  witness_on words views w none kept = record {
    history = kept.history;
    legal = kept.legal;
    shows = kept.shows;
    fits = all_fit-more machine.role facts kept.history views w kept.fits (λ m held. absurd (nothing m held));
    one_seat = one_seat-more views w kept.one_seat (λ m held. absurd (nothing m held));
  }
    where
      nothing : (m : Held K) → Holds w.held m → ⊥
      nothing m held = subst (λ ks. Holds ks m) none held

  pub witness_splits : (id : ℕ) (v : View F K)
      → Splits {S = Unit {0}} (λ s. Keeps machine shown facts s.words s.views) id v v (witness_of v)
  witness_splits id v s kept at =
      subst (λ vs. Keeps machine shown facts s.words (vs ++ witness_of v ∷ [])) (sym (set_again s.views id v at))
      (witness_on s.words s.views (witness_of v) refl kept)

module _ {F K S : Type 0} (machine : Machine F K S) (shown : F → S → List ℕ) (seat : Seat (Unit {0}) (View F K))
    (main : IsMainSeat machine seat)
    (ended : (q : ℕ) → lives_in machine.role (first_pass seat.me.0.held).seen q ≡ false) where
  abbrev v : View F K
  v = seat.me.0

  abbrev k : Held K
  k = first_pass v.held

  module _ (words : List ℕ) (views : List (View F K)) (kept : Keeps machine shown v.facts words views)
      (at : get_elem? views seat.id ≡ some v) where
    fits : FitsHistory machine.role kept.history k
    fits = (kept.fits seat.id v at k (subst (λ ks. Holds ks k) (sym main.one) (inl refl))).1

    own_same : own kept.history 0 ≡ own k.seen 0
    own_same = subst (λ n. own kept.history n ≡ own k.seen n) main.is_main.main fits.own_same

    nothing_more : fits.extends.0 ≡ []
    nothing_more = nothing_follows machine v.facts fits.extends.0 k.seen
        (subst (IsLegal machine v.facts) fits.extends.1 kept.legal)
        (λ q. ap (λ es. Rattle.vms_history.specs.Passes.lives machine.role es q)
        (ap (λ es. own es 0) (sym fits.extends.1) ∙ own_same) ∙ ended q)
        (own-on_top fits.extends.0 k.seen 0 [] (ap (λ es. own es 0) (sym fits.extends.1) ∙ own_same))

    is_seen : kept.history ≡ k.seen
    is_seen = fits.extends.1 ∙ ap (λ es. es ++ k.seen) nothing_more

  pub seen_is_complete : IsComplete machine v.facts k.seen
  seen_is_complete = record { legal = main.is_main.legal; ended = ended }

  pub seen_shows : (words : List ℕ) (slots : List (Unit {0}))
      → Final (Seen (λ s. Keeps machine shown v.facts s.words s.views) seat.id v) words slots
      → words ≡ shown v.facts (state_after machine v.facts k.seen)
  seen_shows words slots last =
      let s : State (Unit {0}) (View F K) = last.0 in
      let kept = last.1.0 in
      sym last.2 ∙ kept.shows
      ∙ ap (λ h. shown v.facts (state_after machine v.facts h)) (is_seen s.words s.views kept last.1.1)

-- where contracts see the main pass as a pass, and the words by their facts
module _ {F K S : Type 0} (machine : Machine F K S) (shown : F → S → List ℕ) (seat : Seat (Unit {0}) (View F K))
    (main : IsMainSeat machine seat) (pass : Pass F K) (is : main_of seat ≡ pass)
    (table : TableId) (key : F) (shared : Shared F) (shared_is : record { table = table; facts = key } ≡ shared)
    (of : IsFrom pass shared) where
  facts_are : seat.me.0.facts ≡ key
  facts_are = ap (λ (p : Pass F K). p.facts) is ∙ of.facts ∙ ap (λ (w : Shared F). w.facts) (sym shared_is)

  pub close_splits : 0 < table.words → (seat.table_id ≡ table) × (0 < table.words)
      × Splits {S = Unit {0}} (λ s. Keeps machine shown key s.words s.views) seat.id seat.me.0 seat.me.0
      (witness_of seat.me.0)
  close_splits inside = (
    ap (λ (p : Pass F K). p.table) is ∙ of.table ∙ ap (λ (w : Shared F). w.table) (sym shared_is),
    inside,
    witness_splits machine shown key seat.id seat.me.0,
  )

  pub close_shows : ((q : ℕ) → lives_in machine.role pass.seen q ≡ false) → (last witness : Seat (Unit {0}) (View F K))
      → last.id ≡ seat.id → last.me ≡ (seat.me.0, seat.me.1) → witness.me ≡ (witness_of seat.me.0, [])
      → (words : List ℕ) (slots : List (Unit {0}))
      → Final (Seen (λ s. Keeps machine shown key s.words s.views) last.id last.me.0) words slots
      → IsClosing machine shown words witness
  close_shows ended last witness same_id same_me witness_me words slots final =
      let ended_here : (q : ℕ) → lives_in machine.role (first_pass seat.me.0.held).seen q ≡ false =
      subst (λ (p : Pass F K). (q : ℕ) → lives_in machine.role p.seen q ≡ false) (sym is) ended in
      let shows = seen_shows machine shown seat main ended_here words slots
      (subst (λ facts. Final (Seen (λ s. Keeps machine shown facts s.words s.views) seat.id seat.me.0) words slots)
      (sym facts_are)
      (subst (λ n. Final (Seen (λ s. Keeps machine shown key s.words s.views) n seat.me.0) words slots) same_id
      (subst
      (λ (me : Me (Unit {0}) (View F K)).
      Final (Seen (λ s. Keeps machine shown key s.words s.views) last.id me.0) words slots)
      same_me final))) in
      let here : (λ (w : View F K). IsComplete machine w.facts w.past
      × (words ≡ shown w.facts (state_after machine w.facts w.past))) witness.me.0 =
      subst
      (λ (me : Me (Unit {0}) (View F K)). IsComplete machine me.0.facts me.0.past
      × (words ≡ shown me.0.facts (state_after machine me.0.facts me.0.past)))
      (sym witness_me) (seen_is_complete machine shown seat main ended_here, shows) in
      record { phase = here.0; shows = here.1 }
