-- That every pass fits, as the history grows by an event and the views of seats change.
use Rattle.std.proofs.Common.{◌≡◌, ◌≢◌, ℕ, true, List, [], ◌∷◌, ◌++◌, set, inl, inr, ⊎_elim, ap, ◌∙◌, subst}
use mathlib.Core.Option.{some}
use lib.ListN.{get_elem?}
use Rattle.atomic_table.proofs.Lists.{at_set}
use Rattle.vms_history.specs.declared.events.Event.{Event}
use Rattle.vms_history.specs.Common.{Role, lives_in}
use Rattle.vms_history.proofs.Common.{own-others}
use Rattle.vms_seats.specs.declared.views.Held.{Held}
use Rattle.vms_seats.specs.declared.views.View.{View}
use Rattle.vms_seats.specs.Common.{FitsHistory, AllFit, Holds}
use Rattle.vms_seats.proofs.SeatLists.{at_longer_by_one}

module _ {K : Type 0} (role : K → Role) where
  -- an event of another caller, after which the pass still lives
  pub fits-others : (e : Event K) (h : List (Event K)) (k : Held K) → FitsHistory role h k → e.caller ≢ k.number
      → (lives_in role h k.number ≡ true → lives_in role (e ∷ h) k.number ≡ true) → FitsHistory role (e ∷ h) k
  fits-others e h k fits others still = record {
    extends = (e ∷ fits.extends.0, ap (λ es. e ∷ es) fits.extends.1);
    own_same = own-others e h k.number others ∙ fits.own_same;
    lives = ⊎_elim inl (λ lives. inr (still lives)) fits.lives;
  }

module _ {F K : Type 0} (role : K → Role) where
  pub all_fit-set : (facts : F) (later h : List (Event K)) (views : List (View F K)) (id : ℕ) (w : View F K)
      → AllFit role facts h views → ((k : Held K) → Holds w.held k → (w.facts ≡ facts) × FitsHistory role later k)
      → ((j : ℕ) (u : View F K) → j ≢ id → get_elem? views j ≡ some u → (k : Held K) → Holds u.held k
      → FitsHistory role h k → FitsHistory role later k)
      → AllFit role facts later (set views id w)
  all_fit-set facts later h views id w all here others j u at k held =
      ⊎_elim
      (λ same. subst (λ (x : View F K). Holds x.held k → (x.facts ≡ facts) × FitsHistory role later k) same.1
      (here k) held)
      (λ other. let old = all j u other.1 k held in (old.0, others j u other.0 other.1 k held old.1))
      (at_set views id j w u at)

  pub all_fit-more : (facts : F) (h : List (Event K)) (views : List (View F K)) (w : View F K)
      → AllFit role facts h views → ((k : Held K) → Holds w.held k → (w.facts ≡ facts) × FitsHistory role h k)
      → AllFit role facts h (views ++ w ∷ [])
  all_fit-more facts h views w all here j u at k held =
      ⊎_elim (λ old. all j u old k held)
      (λ last. subst (λ (x : View F K). Holds x.held k → (x.facts ≡ facts) × FitsHistory role h k) last.1 (here k) held)
      (at_longer_by_one views w u j at)
