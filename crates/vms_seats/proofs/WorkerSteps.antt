-- A step of a worker keeps the rule.
use Rattle.std.proofs.Common.{◌≡◌, ◌≢◌, ℕ, ◌<◌, true, List, [], ◌∷◌, set, slice_index, Option, Some, ◌⊎◌, inl, inr}
use Rattle.std.proofs.Common.{⊎_elim, refl, ap, sym, ◌∙◌, subst, arith}
use mathlib.Core.Option.{some}
use lib.ListN.{get_elem?}
use Rattle.atomic_table.specs.declared.shared.Seat.{Seat}
use Rattle.atomic_table.specs.Table.{Allows, keeps}
use Rattle.vms_history.specs.Common.{CpuId, Machine, GoesOnWithout, lives_in}
use Rattle.vms_history.specs.declared.events.Event.{Event}
use Rattle.vms_history.proofs.Common.{live_is_given, lives_in-others, Extends-same}
use Rattle.vms_seats.specs.declared.views.Held.{Held}
use Rattle.vms_seats.specs.declared.views.View.{View}
use Rattle.vms_seats.specs.Common.{Advances, Keeps, FitsHistory, IsWorker, worker_of, MayStep, NextStep, first_pass}
use Rattle.vms_seats.specs.Common.{holding, Holds}
use Rattle.vms_seats.proofs.SeatFits.{fits-others, all_fit-set}
use Rattle.vms_seats.proofs.SeatLists.{one_seat-set, Unheld}

module _ {F K S : Type 0} (machine : Machine F K S) (shown : F → S → List ℕ) (seat : Seat (Unit {0}) (View F K))
    (cpu : Option CpuId) (worker : IsWorker machine seat cpu) where
  abbrev v : View F K
  v = seat.me.0

  abbrev k : Held K
  k = first_pass v.held

  held : Holds v.held k
  held = subst (λ ks. Holds ks k) (sym worker.one) (inl refl)

  number_some : 0 < k.number
  number_some = (live_is_given machine v.facts k.seen k.number worker.live.legal worker.live.lives).0

  module _ (words : List ℕ) (views : List (View F K)) (kept : Keeps machine shown v.facts words views)
      (at : get_elem? views seat.id ≡ some v) where
    abbrev h : List (Event K)
    h = kept.history

    fits : FitsHistory machine.role h k
    fits = (kept.fits seat.id v at k held).1

    goes : GoesOnWithout machine v.facts h k.seen k.number
    goes = record {
      legal = kept.legal;
      extends = fits.extends;
      lived = worker.live.lives;
      lives = ⊎_elim (λ main. absurd (main_is main)) (λ lives. lives) fits.lives;
      own_same = fits.own_same;
    }
      where
        main_is : k.number ≡ 0 → ⊥
        main_is main = let some = number_some in omega arith

    module _ (place : ℕ) (change : ℕ → ℕ) (told : ℕ → K)
        (next : NextStep machine shown v.facts h k.number place (change (slice_index words place))
        (told (slice_index words place))) where
      abbrev e : Event K
      e = record { caller = k.number; step = told (slice_index words place) }

      abbrev w : View F K
      w = holding v (record { number = k.number; seen = e ∷ h } ∷ [])

      other_than_main : k.number ≢ 0
      other_than_main main = let some = number_some in omega arith

      still : (q : ℕ) → lives_in machine.role h q ≡ true → lives_in machine.role (e ∷ h) q ≡ true
      still q lives = lives_in-others machine.role e h q other_than_main ∙ lives

      here : (m : Held K) → Holds w.held m → (w.facts ≡ v.facts) × FitsHistory machine.role (e ∷ h) m
      here m held_now = ⊎_elim
          (λ same. (
            refl,
            subst (FitsHistory machine.role (e ∷ h)) same (record {
              extends = Extends-same (e ∷ h);
              own_same = refl;
              lives = inr (still k.number goes.lives);
            }),
          ))
          (λ none. absurd none) held_now

      others : (j : ℕ) (u : View F K) → j ≢ seat.id → get_elem? views j ≡ some u → (m : Held K) → Holds u.held m
          → FitsHistory machine.role h m → FitsHistory machine.role (e ∷ h) m
      others j u other at_j m held_there fits_there =
          fits-others machine.role e h m fits_there
          (λ same. other (sym (kept.one_seat seat.id j v u at at_j k m held held_there same)))
          (still m.number)

      from : (m : Held K) → Holds w.held m
          → ((before : Held K) × Holds v.held before × (before.number ≡ m.number)) ⊎ Unheld views m.number
      from m held_now =
          ⊎_elim (λ same. inl (k, held, ap (λ (x : Held K). x.number) same)) (λ none. absurd none) held_now

      keeps_on : Keeps machine shown v.facts (set words place (change (slice_index words place))) (set views seat.id w)
      keeps_on = record {
        history = e ∷ h;
        legal = next.legal;
        shows = ap (λ ws. set ws place (change (slice_index words place))) kept.shows ∙ sym next.shows;
        fits = all_fit-set machine.role v.facts (e ∷ h) h views seat.id w kept.fits here others;
        one_seat = one_seat-set views seat.id v w at kept.one_seat from;
      }

      advances : Advances machine (λ n. Some (told n)) v (slice_index words place) w
      advances = record {
        seen = e ∷ h;
        view = refl;
        step = told (slice_index words place);
        is = refl;
        made = record { before = h; others = goes; newest = refl; legal = next.legal };
      }

  pub worker_may : (slots place : ℕ) (change : ℕ → ℕ) (told : ℕ → K)
      → MayStep machine shown (worker_of seat cpu) place change told
      → Allows {S = Unit {0}} (λ s. Keeps machine shown v.facts s.words s.views) slots seat.id seat.me place change
      (λ found w. (w.1 ≡ seat.me.1) × Advances machine (λ n. Some (told n)) seat.me.0 found w.0)
  worker_may slots place change told may s kept long at small =
      let found : ℕ = slice_index s.words place in
      let stands = ap (λ ws. slice_index ws place) (sym kept.shows) in
      let next = may kept.history found (goes s.words s.views kept at) small stands in (
        w s.words s.views kept at place change told next,
        keeps,
        tt,
        keeps_on s.words s.views kept at place change told next,
        (refl, advances s.words s.views kept at place change told next),
      )
