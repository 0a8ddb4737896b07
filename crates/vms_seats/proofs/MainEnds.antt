-- What the main pass asks of the words to end a pass, and what that gives, by its seat.
use Rattle.std.proofs.Common.{◌≡◌, ◌≢◌, ℕ, ◌<◌, List, [], ◌∷◌, Option, None, refl, ap, sym, ◌∙◌, subst, arith}
use Rattle.atomic_table.specs.declared.shared.Seat.{Seat}
use Rattle.atomic_table.specs.Seated.{TableId}
use Rattle.atomic_table.specs.Table.{Allows, Joins, Me}
use Rattle.vms_history.specs.Common.{CpuId, own, Machine, IsQuiet, Ends}
use Rattle.vms_history.specs.declared.events.Event.{Event}
use Rattle.vms_history.proofs.Common.{own-others, live_is_given}
use Rattle.vms_seats.specs.declared.views.Held.{Held}
use Rattle.vms_seats.specs.declared.views.View.{View}
use Rattle.vms_seats.specs.Common.{HasEnded, MayEndPass, Pass, Shared, IsMain, IsFrom, Unites, Keeps, IsMainSeat}
use Rattle.vms_seats.specs.Common.{IsWorker, main_of, worker_of, first_pass, both_held, holding, spent_view}
use Rattle.vms_seats.proofs.MainSeats.{seat-at}
use Rattle.vms_seats.proofs.PassEnds.{main_may_end, seats_join}

-- a view that acts for one pass
alone_is : {F K : Type 0} (v : View F K) → v.held ≡ first_pass v.held ∷ [] → v ≡ holding v (first_pass v.held ∷ [])
alone_is v one = λ i. record { facts = v.facts; held = one i; past = v.past }

module _ {F K S : Type 0} (machine : Machine F K S) (shown : F → S → List ℕ) (quiet : IsQuiet machine)
    (seat : Seat (Unit {0}) (View F K)) (main : IsMainSeat machine seat) (pass : Pass F K) (is : main_of seat ≡ pass)
    (table : TableId) (key : F) (words : Shared F) (words_are : record { table = table; facts = key } ≡ words)
    (of : IsFrom pass words) (some : 0 < table.words) where
  abbrev v : View F K
  v = seat.me.0

  abbrev k : Held K
  k = first_pass v.held

  seated : (seat.table_id ≡ table) × (v.facts ≡ key)
  seated = seat-at seat pass is table key words words_are of

  -- the main pass ends another
  module _ (other : Seat (Unit {0}) (View F K)) (cpu : Option CpuId) (worker : IsWorker machine other cpu)
      (theirs : Pass F K) (theirs_is : worker_of other cpu ≡ theirs) (theirs_of : IsFrom theirs words) (blank : F)
      (ends : ℕ → K) (ends_it : (q : ℕ) → machine.role (ends q) ≡ Ends q) (may : MayEndPass machine theirs) where
    abbrev u : View F K
    u = other.me.0

    abbrev m : Held K
    m = first_pass u.held

    their_table : other.table_id ≡ table
    their_table = ap (λ (p : Pass F K). p.table) theirs_is ∙ theirs_of.table
        ∙ ap (λ (w : Shared F). w.table) (sym words_are)

    their_facts : theirs.facts ≡ v.facts
    their_facts = theirs_of.facts ∙ ap (λ (w : Shared F). w.facts) (sym words_are) ∙ sym seated.1

    their_number : theirs.number ≡ m.number
    their_number = ap (λ (p : Pass F K). p.number) (sym theirs_is)

    their_seen : theirs.seen ≡ m.seen
    their_seen = ap (λ (p : Pass F K). p.seen) (sym theirs_is)

    both_is : both_held v u ≡ holding v (k ∷ m ∷ [])
    both_is = λ i. both_held (alone_is v main.one i) (alone_is u worker.one i)

    pub end_joins : (seat.table_id ≡ table) × (other.table_id ≡ table) × (other.me.1 ≡ []) × (0 < table.words)
        × Joins {S = Unit {0}} (λ s. Keeps machine shown key s.words s.views) seat.id v other.id u (both_held v u)
        (spent_view blank)
    end_joins = (
      seated.0,
      their_table,
      worker.empty,
      some,
      subst
          (λ (x : View F K). Joins {S = Unit {0}} (λ s. Keeps machine shown key s.words s.views) seat.id x other.id u
          (both_held x u) (spent_view blank))
          (sym (alone_is v main.one))
          (subst
          (λ (y : View F K). Joins {S = Unit {0}} (λ s. Keeps machine shown key s.words s.views) seat.id
          (holding v (k ∷ [])) other.id y (both_held (holding v (k ∷ [])) y) (spent_view blank))
          (sym (alone_is u worker.one))
          (seats_join machine shown key blank seat.id other.id v u k m)),
    )

    -- once the seat acts for both
    module _ (after : Seat (Unit {0}) (View F K)) (after_table : after.table_id ≡ seat.table_id)
        (after_me : after.me ≡ (both_held v u, seat.me.1)) where
      me_is : after.me ≡ (holding v (k ∷ m ∷ []), [])
      me_is = after_me ∙ (λ i. (both_is i, main.empty i))

      given : m.number ≢ 0
      given zero = let least = (live_is_given machine u.facts m.seen m.number worker.live.legal worker.live.lives).0 in
          omega arith

      may_end : machine.MayEnd v.facts (own m.seen m.number)
      may_end = subst (λ facts. machine.MayEnd facts (own m.seen m.number)) their_facts
          (subst (λ n. machine.MayEnd theirs.facts (own m.seen n)) their_number
          (subst (λ es. machine.MayEnd theirs.facts (own es theirs.number)) their_seen may))

      pub end_may : (after.table_id ≡ table) × (0 < table.words)
          × Allows {S = Unit {0}} (λ s. Keeps machine shown key s.words s.views) table.slots after.id after.me 0
          (λ n. n)
          (λ found w. (w.1 ≡ after.me.1) × Unites machine ends after.me.0 w.0)
      end_may = (
        after_table ∙ seated.0,
        some,
        subst
            (λ (me : Me (Unit {0}) (View F K)). Allows {S = Unit {0}} (λ s. Keeps machine shown key s.words s.views)
            table.slots after.id me 0 (λ n. n) (λ found w. (w.1 ≡ me.1) × Unites machine ends me.0 w.0))
            (sym me_is)
            (subst
            (λ facts. Allows {S = Unit {0}} (λ s. Keeps machine shown facts s.words s.views) table.slots after.id
            (holding v (k ∷ m ∷ []), []) 0 (λ n. n)
            (λ found w. (w.1 ≡ []) × Unites machine ends (holding v (k ∷ m ∷ [])) w.0))
            seated.1
            (main_may_end machine shown quiet v k m main.is_main.main given ends ends_it may_end after.id
            table.slots)),
      )

      -- once the other has ended
      module _ (last : Seat (Unit {0}) (View F K)) (last_table : last.table_id ≡ after.table_id)
          (last_empty : last.me.1 ≡ after.me.1) (unites : Unites machine ends after.me.0 last.me.0) where
        united : Unites machine ends (holding v (k ∷ m ∷ [])) last.me.0
        united = subst (λ (me : Me (Unit {0}) (View F K)). Unites machine ends me.0 last.me.0) me_is unites

        abbrev new_main : Pass F K
        new_main = record { table = table; facts = v.facts; number = 0; cpu = None; seen = united.seen }

        abbrev e : Event K
        e = record { caller = 0; step = ends m.number }

        last_is : main_of last ≡ new_main
        last_is = λ i. record {
          table = (last_table ∙ after_table ∙ seated.0) i;
          facts = (united.view i).facts;
          number = (first_pass (united.view i).held).number;
          cpu = None;
          seen = (first_pass (united.view i).held).seen;
        }

        pub end_main : IsMainSeat machine last
        end_main = record {
          empty = last_empty ∙ ap (λ (me : Me (Unit {0}) (View F K)). me.1) me_is;
          one = subst (λ (x : View F K). x.held ≡ first_pass x.held ∷ []) (sym united.view) refl;
          is_main = subst (IsMain machine) (sym last_is)
              (record { legal = united.made.made.legal; main = refl; none = refl });
        }

        all_steps : own united.seen m.number ≡ own m.seen m.number
        all_steps = ap (λ es. own es m.number) united.made.made.newest
            ∙ own-others e united.made.made.before m.number (λ zero. given (sym zero)) ∙ united.made.all_steps

        ended_now : HasEnded machine ends new_main (main_of seat) (worker_of other cpu)
        ended_now = record {
          main = record {
            table = sym seated.0;
            facts = refl;
            number = sym main.is_main.main;
            cpu = refl;
            extends = (
              e ∷ united.made.made.extends.0,
              united.made.made.newest ∙ ap (λ es. e ∷ es) united.made.made.extends.1,
            );
          };
          made = united.made.made;
          knew = united.made.knew;
          all_steps = all_steps;
        }

        pub end_made : HasEnded machine ends (main_of last) pass theirs
        end_made = subst (λ p. HasEnded machine ends (main_of last) p theirs) is
            (subst (λ p. HasEnded machine ends p (main_of seat) theirs) (sym last_is)
            (subst (λ p. HasEnded machine ends new_main (main_of seat) p) theirs_is ended_now))
