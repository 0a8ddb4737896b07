-- What the main pass asks of the words to begin a pass, and what that gives, by its seat.
use Rattle.std.proofs.Common.{◌≡◌, ℕ, ◌<◌, true, cond, List, [], ◌∷◌, Option, None, refl, ap, sym, ◌∙◌, subst, arith}
use Rattle.std.proofs.Common.{eq-eqb}
use Rattle.atomic_table.specs.declared.shared.Seat.{Seat}
use Rattle.atomic_table.specs.Seated.{TableId}
use Rattle.atomic_table.specs.Table.{Allows, Splits, Me}
use Rattle.vms_history.specs.Common.{CpuId, own, Machine, IsLegal, IsQuiet, begun, begun_in, lives_in, lives_after}
use Rattle.vms_history.specs.Common.{owner_in, owner_after, Begins}
use Rattle.vms_history.specs.declared.events.Event.{Event}
use Rattle.vms_history.proofs.Common.{own-others, lives_in-main, owner_in-main, own-not_given}
use Rattle.vms_seats.specs.declared.views.View.{View}
use Rattle.vms_seats.specs.Common.{HasBegun, MayBeginPass, next_number, Pass, Shared, IsLive, IsMain, IsFrom, Divides}
use Rattle.vms_seats.specs.Common.{Keeps, IsMainSeat, IsWorker, main_of, worker_of, first_pass, first_alone}
use Rattle.vms_seats.specs.Common.{second_alone, holding}
use Rattle.vms_seats.proofs.MainSeats.{seat-at}
use Rattle.vms_seats.proofs.PassBegins.{main_may_begin, main_splits}

module _ {F K S : Type 0} (machine : Machine F K S) (shown : F → S → List ℕ) (quiet : IsQuiet machine)
    (seat : Seat (Unit {0}) (View F K)) (main : IsMainSeat machine seat) (pass : Pass F K) (is : main_of seat ≡ pass)
    (table : TableId) (key : F) (words : Shared F) (words_are : record { table = table; facts = key } ≡ words)
    (of : IsFrom pass words) (some : 0 < table.words) where
  abbrev v : View F K
  v = seat.me.0

  seated : (seat.table_id ≡ table) × (v.facts ≡ key)
  seated = seat-at seat pass is table key words words_are of

  module _ (begins : ℕ → Option CpuId → K)
      (begins_it : (r : ℕ) (o : Option CpuId) → machine.role (begins r o) ≡ Begins r o) (who : Option CpuId)
      (may : MayBeginPass machine pass who) (picked : Option CpuId) (picked_is : picked ≡ who) where
    pub begin_may : (seat.table_id ≡ table) × (0 < table.words)
        × Allows {S = Unit {0}} (λ s. Keeps machine shown key s.words s.views) table.slots seat.id seat.me 0 (λ n. n)
        (λ found w. (w.1 ≡ seat.me.1) × Divides machine begins picked seat.me.0 w.0)
    begin_may = (
      seated.0,
      some,
      subst
          (λ facts. Allows {S = Unit {0}} (λ s. Keeps machine shown facts s.words s.views) table.slots seat.id seat.me 0
          (λ n. n) (λ found w. (w.1 ≡ seat.me.1) × Divides machine begins picked seat.me.0 w.0))
          seated.1
          (main_may_begin machine shown quiet seat main table.slots begins begins_it picked
          (subst (λ p. MayBeginPass machine p picked) (sym is)
          (subst (MayBeginPass machine pass) (sym picked_is) may))),
    )

    -- once the seat acts for both
    module _ (after : Seat (Unit {0}) (View F K)) (divided : Divides machine begins picked v after.me.0) where
      abbrev q : ℕ
      q = next_number machine (first_pass v.held).seen

      pub divides : Divides machine begins who v after.me.0
      divides = subst (λ o. Divides machine begins o v after.me.0) picked_is divided

      pub begin_splits : Splits {S = Unit {0}} (λ s. Keeps machine shown key s.words s.views) after.id after.me.0
          (first_alone after.me.0) (second_alone after.me.0)
      begin_splits = subst
          (λ (u : View F K). Splits {S = Unit {0}} (λ s. Keeps machine shown key s.words s.views) after.id u
          (first_alone u) (second_alone u))
          (sym divides.view)
          (main_splits machine shown key after.id v (record { number = 0; seen = divides.seen })
          (record { number = q; seen = divides.seen }) (λ none. omega arith))

      -- the main pass and the other one after the split
      abbrev new_main : Pass F K
      new_main = record { table = table; facts = v.facts; number = 0; cpu = None; seen = divides.seen }

      abbrev new_pass : Pass F K
      new_pass = record { table = table; facts = v.facts; number = q; cpu = who; seen = divides.seen }

      abbrev e : Event K
      e = record { caller = 0; step = begins q who }

      abbrev h : List (Event K)
      h = divides.made.before

      role_is : machine.role (begins q who) ≡ Begins q who
      role_is = begins_it q who

      legal_now : IsLegal machine v.facts (e ∷ h)
      legal_now = subst (IsLegal machine v.facts) divides.made.newest divides.made.legal

      lives : lives_in machine.role divides.seen q ≡ true
      lives = ap (λ es. lives_in machine.role es q) divides.made.newest
          ∙ lives_in-main machine.role e h q refl
          ∙ ap (λ t. lives_after t q (lives_in machine.role h q)) role_is
          ∙ ap (λ b. cond b true (lives_in machine.role h q)) (eq-eqb q q refl)

      owner : owner_in machine.role divides.seen q ≡ who
      owner = ap (λ es. owner_in machine.role es q) divides.made.newest
          ∙ owner_in-main machine.role e h q refl
          ∙ ap (λ t. owner_after t q (owner_in machine.role h q)) role_is
          ∙ ap (λ b. cond b who (owner_in machine.role h q)) (eq-eqb q q refl)

      begun_before : begun_in machine.role h ≡ begun_in machine.role (first_pass v.held).seen
      begun_before = ap (begun machine.role) divides.made.own_same

      no_steps : own divides.seen q ≡ []
      no_steps = ap (λ es. own es q) divides.made.newest
          ∙ own-others e h q (λ zero. omega arith)
          ∙ own-not_given machine v.facts h q legal_now.0 (omega (arith, begun_before))

      pub live_now : IsLive machine new_pass
      live_now = record { legal = divides.made.legal; lives = lives; owner = owner }

      begun_now : HasBegun machine begins new_main (main_of seat) new_pass who
      begun_now = record {
        main = record {
          table = sym seated.0;
          facts = refl;
          number = sym main.is_main.main;
          cpu = refl;
          extends = (
            e ∷ divides.made.extends.0,
            divides.made.newest ∙ ap (λ es. e ∷ es) divides.made.extends.1,
          );
        };
        made = divides.made;
        table = sym seated.0;
        facts = refl;
        number = refl;
        cpu = refl;
        seen = refl;
        live = live_now;
        no_steps = no_steps;
      }

      -- the two seats after the split
      module _ (left right : Seat (Unit {0}) (View F K)) (left_table : left.table_id ≡ after.table_id)
          (right_table : right.table_id ≡ after.table_id) (after_table : after.table_id ≡ seat.table_id)
          (left_me : left.me ≡ (first_alone after.me.0, after.me.1))
          (right_me : right.me ≡ (second_alone after.me.0, []))
          (after_empty : after.me.1 ≡ seat.me.1) where
        left_view : left.me.0 ≡ holding v (record { number = 0; seen = divides.seen } ∷ [])
        left_view = ap (λ (me : Me (Unit {0}) (View F K)). me.0) left_me ∙ ap first_alone divides.view

        right_view : right.me.0 ≡ holding v (record { number = q; seen = divides.seen } ∷ [])
        right_view = ap (λ (me : Me (Unit {0}) (View F K)). me.0) right_me ∙ ap second_alone divides.view

        left_is : main_of left ≡ new_main
        left_is = λ i. record {
          table = (left_table ∙ after_table ∙ seated.0) i;
          facts = (left_view i).facts;
          number = (first_pass (left_view i).held).number;
          cpu = None;
          seen = (first_pass (left_view i).held).seen;
        }

        right_is : worker_of right who ≡ new_pass
        right_is = λ i. record {
          table = (right_table ∙ after_table ∙ seated.0) i;
          facts = (right_view i).facts;
          number = (first_pass (right_view i).held).number;
          cpu = who;
          seen = (first_pass (right_view i).held).seen;
        }

        pub begin_main : IsMainSeat machine left
        begin_main = record {
          empty = ap (λ (me : Me (Unit {0}) (View F K)). me.1) left_me ∙ after_empty ∙ main.empty;
          one = subst (λ (u : View F K). u.held ≡ first_pass u.held ∷ []) (sym left_view) refl;
          is_main = subst (IsMain machine) (sym left_is)
              (record { legal = divides.made.legal; main = refl; none = refl });
        }

        pub begin_worker : IsWorker machine right who
        begin_worker = record {
          empty = ap (λ (me : Me (Unit {0}) (View F K)). me.1) right_me;
          one = subst (λ (u : View F K). u.held ≡ first_pass u.held ∷ []) (sym right_view) refl;
          live = subst (IsLive machine) (sym right_is) live_now;
        }

        pub begin_made : HasBegun machine begins (main_of left) pass (worker_of right who) who
        begin_made = subst (λ p. HasBegun machine begins (main_of left) p (worker_of right who) who) is
            (subst (λ p. HasBegun machine begins p (main_of seat) (worker_of right who) who) (sym left_is)
            (subst (λ p. HasBegun machine begins new_main (main_of seat) p who) (sym right_is) begun_now))
