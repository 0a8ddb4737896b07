-- What the calls of a worker ask of the words and give, by its seat.
use Rattle.std.proofs.Common.{◌≡◌, ℕ, ◌<◌, List, [], ◌∷◌, Option, Some, refl, ap, sym, ◌∙◌, subst}
use Rattle.atomic_table.specs.declared.shared.Seat.{Seat}
use Rattle.atomic_table.specs.Seated.{TableId}
use Rattle.atomic_table.specs.Table.{Allows}
use Rattle.vms_history.specs.Common.{CpuId, Machine, IsLegal, HasMade, after}
use Rattle.vms_history.specs.declared.events.Event.{Event}
use Rattle.vms_history.proofs.Common.{made-one, Extends-both}
use Rattle.vms_seats.specs.declared.views.View.{View}
use Rattle.vms_seats.specs.Common.{Pass, Shared, IsFrom, IsLive, Advances, Keeps, IsWorker, worker_of, MayStep}
use Rattle.vms_seats.specs.Common.{MakesStep, MadeOne, first_pass}
use Rattle.vms_seats.proofs.MadeCalls.{calls-live}
use Rattle.vms_seats.proofs.WorkerSteps.{worker_may}

Some-inj : {K : Type 0} (first second : K) → Some first ≡ Some second → first ≡ second
Some-inj first second same = cc

module _ {F K S : Type 0} (machine : Machine F K S) where
  -- one step is a row of steps
  pub makes-made : (facts : F) (later earlier : List (Event K)) (p : ℕ) (step : K)
      → MakesStep machine facts later earlier p step → HasMade machine facts later earlier p (step ∷ [])
  makes-made facts later earlier p step makes =
      let now : List (Event K) = record { caller = p; step = step } ∷ makes.before in
      let one = made-one machine facts makes.before p step makes.others.lives
      (subst (IsLegal machine facts) makes.newest makes.legal) in
      subst (λ h. HasMade machine facts h earlier p (step ∷ [])) (sym makes.newest) (record {
        legal = one.legal;
        extends = Extends-both now makes.before earlier one.extends makes.others.extends;
        lived = makes.others.lived;
        lives = one.lives;
        made = one.made ∙ ap (after p (step ∷ [])) makes.others.own_same;
      })

  module _ (old new : Seat (Unit {0}) (View F K)) (cpu : Option CpuId) (worker : IsWorker machine old cpu)
      (plan : ℕ → Option K) (found : ℕ)
      (goes : (new.table_id ≡ old.table_id) × (new.id ≡ old.id)
      × ((new.me.1 ≡ old.me.1) × Advances machine plan old.me.0 found new.me.0)) where
    advances : Advances machine plan old.me.0 found new.me.0
    advances = goes.2.1

    -- the pass after the step
    abbrev after_step : Pass F K
    after_step = record {
      table = old.table_id;
      facts = old.me.0.facts;
      number = (first_pass old.me.0.held).number;
      cpu = cpu;
      seen = advances.seen;
    }

    is_after_step : worker_of new cpu ≡ after_step
    is_after_step = λ i. record {
      table = goes.0 i;
      facts = (advances.view i).facts;
      number = (first_pass (advances.view i).held).number;
      cpu = cpu;
      seen = (first_pass (advances.view i).held).seen;
    }

    one_made : MadeOne machine after_step (worker_of old cpu) advances.step
    one_made = record {
      all = record {
        table = refl;
        facts = refl;
        number = refl;
        cpu = refl;
        made = makes-made old.me.0.facts advances.seen (first_pass old.me.0.held).seen (first_pass old.me.0.held).number
            advances.step advances.made;
      };
      at = advances.made;
    }

    -- the step is the one that was planned, and contracts see the worker as a pass
    pub step_made : (told : ℕ → K) → plan ≡ (λ n. Some (told n)) → (pass : Pass F K) → worker_of old cpu ≡ pass
        → MadeOne machine (worker_of new cpu) pass (told found)
    step_made told planned pass is = subst (λ p. MadeOne machine (worker_of new cpu) p (told found)) is
        (subst (MadeOne machine (worker_of new cpu) (worker_of old cpu))
        (Some-inj advances.step (told found) (sym advances.is ∙ ap (λ (f : ℕ → Option K). f found) planned))
        (subst (λ p. MadeOne machine p (worker_of old cpu) advances.step) (sym is_after_step) one_made))

    pub still_worker : IsWorker machine new cpu
    still_worker = record {
      empty = goes.2.0 ∙ worker.empty;
      one = subst (λ (v : View F K). v.held ≡ first_pass v.held ∷ []) (sym advances.view) refl;
      live = subst (IsLive machine) (sym is_after_step)
          (calls-live machine after_step (worker_of old cpu) (advances.step ∷ []) worker.live one_made.all);
    }

-- what a step asks, where contracts see the worker as a pass
module _ {F K S : Type 0} (machine : Machine F K S) (shown : F → S → List ℕ) where
  pub step_may : (seat : Seat (Unit {0}) (View F K)) (cpu : Option CpuId) → IsWorker machine seat cpu
      → (pass : Pass F K) → worker_of seat cpu ≡ pass
      → (table : TableId) (key : F) (words : Shared F) → record { table = table; facts = key } ≡ words
      → IsFrom pass words → (place : ℕ) → place < words.table.words → (change : ℕ → ℕ) (told : ℕ → K)
      → MayStep machine shown pass place change told → (plan : ℕ → Option K) → plan ≡ (λ n. Some (told n))
      → (seat.table_id ≡ table) × (place < table.words)
      × Allows (λ s. Keeps machine shown key s.words s.views) table.slots seat.id seat.me place change
      (λ found w. (w.1 ≡ seat.me.1) × Advances machine plan seat.me.0 found w.0)
  step_may seat cpu worker pass is table key words words_are of place inside change told may plan planned = (
    ap (λ (p : Pass F K). p.table) is ∙ of.table ∙ ap (λ (w : Shared F). w.table) (sym words_are),
    subst (λ (w : Shared F). place < w.table.words) (sym words_are) inside,
    subst
        (λ fs. Allows (λ s. Keeps machine shown fs s.words s.views) table.slots seat.id seat.me place change
        (λ found w. (w.1 ≡ seat.me.1) × Advances machine plan seat.me.0 found w.0))
        (ap (λ (p : Pass F K). p.facts) is ∙ of.facts ∙ ap (λ (w : Shared F). w.facts) (sym words_are))
        (subst
        (λ plan. Allows {S = Unit {0}} (λ s. Keeps machine shown seat.me.0.facts s.words s.views) table.slots seat.id
        seat.me place change (λ found w. (w.1 ≡ seat.me.1) × Advances machine plan seat.me.0 found w.0))
        (sym planned)
        (worker_may machine shown seat cpu worker table.slots place change told
        (subst (λ p. MayStep machine shown p place change told) (sym is) may))),
  )
