-- Each position can be completed.
use Rattle.std.proofs.Common.{ℕ, ◌<◌, [], ◌∷◌, ◌++◌, length, inl, refl, arith}
use Rattle.vms_calls.specs.Common.{Header, History, IsLayout, State, ZoneSize, after, facts_of, online_from, size_at}
use Rattle.vms_plans.specs.Common.{IsOpen, Plan, SomeStepFits, and_then, asks, ends, recorded, refuses, waits}
use Rattle.vms_plans.proofs.PlanLaws.{runs-and_then, runs-recorded}
use Rattle.vms_cursors.specs.Calls.{IsWithin, cursor_at}
use Rattle.vms_cursors.specs.Completions.{CanEnd, CursorMayFindOnline, MayFindOnline, RulesAnswer, RulesAnswerOnline}
use Rattle.vms_cursors.specs.OnlineCpus.{flagged}
use Rattle.vms_cursors.specs.RatingCalls.{choice_in}
use Rattle.vms_cursors.specs.Ratings.{IsPositionWithin, rating_at}
use Rattle.vms_cursors.specs.declared.burial_positions.BurialPosition.TheVariants as burial
use Rattle.vms_cursors.specs.declared.cursors.Cursor.{Cursor}
use Rattle.vms_cursors.specs.declared.cursors.Cursor.TheVariants.{Change, Value, System, Snapshot, Test, Fold, Rates}
use Rattle.vms_cursors.specs.declared.cursors.Cursor.TheVariants.{Bury, Turn}
use Rattle.vms_cursors.specs.declared.rating_calls.RatingCall.{RatingCall}
use Rattle.vms_cursors.specs.declared.rating_positions.RatingPosition.{RatingPosition}
use Rattle.vms_cursors.specs.declared.rating_positions.RatingPosition.TheVariants.{Asks, Mark, Nodes, Numbers, States}
use Rattle.vms_cursors.specs.declared.rating_positions.RatingPosition.TheVariants.{Thresholds, Zones}
use Rattle.vms_cursors.specs.declared.turn_positions.TurnPosition.TheVariants.{Presses, Tests, Settles}
use Rattle.vms_cursors.proofs.CursorParts.{CursorFits, Never, cursor-holds}
use Rattle.vms_cursors.proofs.OpenPositions.{IsGood, IsSureAt, open-and_then, open-recorded, rating-open}
use Rattle.vms_cursors.proofs.RatingEnds.{Something, good-ends, rating-ends, some-choice}

-- nothing is needed of a question
abbrev Nothing : (ℕ → ℕ → Type 0) → Type 0
Nothing Allows = Unit {0}

good-open : {A : Type 0} (plan : Plan A) → IsGood Nothing plan → IsOpen plan
good-open (ends a) good = (tt {0})
good-open refuses good = good
good-open (waits due next) good = λ step fits. good-open (next step) (good step fits)
good-open (asks Allows next) good = λ t usual allowed. good-open (next t usual) (good.1 t usual allowed)

unasked-good : {A : Type 0} (plan : Plan A) → IsGood Never plan → IsGood Nothing plan
unasked-good (ends a) good = (tt {0})
unasked-good refuses good = good
unasked-good (waits due next) good = λ step fits. unasked-good (next step) (good step fits)
unasked-good (asks Allows next) good = absurd good.0

unasked-ends : {A : Type 0} → SomeStepFits → (plan : Plan A) → IsGood Never plan → CanEnd plan
unasked-ends fits (ends a) good = ([], a, refl)
unasked-ends fits refuses good = absurd good
unasked-ends fits (waits due next) good =
    let first = fits due in
    let more = unasked-ends fits (next first.0) (good first.0 first.1) in
    (first.0 ∷ more.0, more.1, (first.1, more.2))
unasked-ends fits (asks Allows next) good = absurd good.0

ends-followed : {A B : Type 0} (plan : Plan A) (more : A → Plan B) → CanEnd plan → ((a : A) → CanEnd (more a))
    → CanEnd (and_then plan more)
ends-followed plan more here later =
    let rest = later here.1 in
    (here.0 ++ rest.0, rest.1, runs-and_then plan more here.0 rest.0 here.1 rest.1 here.2 rest.2)

ends-kept : {A : Type 0} (p : ℕ) (h : History) (plan : Plan A) → CanEnd plan → CanEnd (recorded p h plan)
ends-kept p h plan here = (here.0, (here.1, after p here.0 h), runs-recorded p plan h here.0 here.1 here.2)

module _ (header : Header) (base : State) (p : ℕ) (pressure normal : ZoneSize → ℕ → ℕ → Type 0) (h : History) where
  abbrev Each : RatingPosition → Type 0
  Each at = Unit {0}

  module _ (Needs : (ℕ → ℕ → Type 0) → Type 0)
      (sure : (call : RatingCall) (g n : ℕ) → Needs (choice_in call pressure normal (size_at header.sizes g) n)) where
    -- the rules answer, however many CPUs are online
    each-sure : (call : RatingCall) (at : RatingPosition)
        → IsSureAt Needs (facts_of header base) p pressure normal call at
    each-sure call (States online c) = λ found g. sure call g (length (flagged online.flags 0 c ++ online_from c found))
    each-sure call (Zones seen g) = λ z. sure call z (length (flagged seen.online.flags 0 header.layout.cpus))
    each-sure call (Numbers seen g c) = λ z. sure call z (length (flagged seen.online.flags 0 header.layout.cpus))
    each-sure call (Asks seen g m) = λ z. sure call z (length (flagged seen.online.flags 0 header.layout.cpus))
    each-sure call (Mark seen g t m) = λ z. sure call z (length (flagged seen.online.flags 0 header.layout.cpus))
    each-sure call (Thresholds seen g t c) = λ z. sure call z (length (flagged seen.online.flags 0 header.layout.cpus))
    each-sure call (Nodes seen i c) = (tt {0})

    each-good : (call : RatingCall) (h : History) (at : RatingPosition)
        → IsGood Needs (rating_at (facts_of header base) p pressure normal call h at)
    each-good call h at = rating-open Needs (facts_of header base) p pressure normal call h at (each-sure call at)

  each-fits : (cursor : Cursor) → CursorFits Each cursor
  each-fits (Rates call at) = (tt {0})
  each-fits (Bury c (burial.Folds at)) = (tt {0})
  each-fits (Bury c (burial.Rates at)) = (tt {0})
  each-fits (Turn turn (Presses at)) = (tt {0})
  each-fits (Turn turn (Tests at)) = (tt {0})
  each-fits (Turn turn (Settles g verdict at)) = (tt {0})
  each-fits (Change change at) = (tt {0})
  each-fits (Value k at) = (tt {0})
  each-fits (System i at) = (tt {0})
  each-fits (Snapshot k at) = (tt {0})
  each-fits (Test g mark most at) = (tt {0})
  each-fits (Fold fold at) = (tt {0})

  pub cursor-open : (cursor : Cursor) → IsOpen (cursor_at header base p pressure normal h cursor)
  cursor-open cursor = good-open (cursor_at header base p pressure normal h cursor)
      (cursor-holds (λ A plan. IsGood Nothing plan) (λ A B. open-and_then Nothing) (λ A. open-recorded Nothing)
      (λ A. unasked-good) header base p pressure normal Each (tt {0})
      (λ call k at fits. each-good Nothing (λ c g n. (tt {0})) call k at) h cursor (each-fits cursor))

  -- where the rules answer, however many CPUs are online
  pub cursor-ends : SomeStepFits → RulesAnswer header pressure normal → (cursor : Cursor)
      → CanEnd (cursor_at header base p pressure normal h cursor)
  cursor-ends fits rules cursor =
      cursor-holds (λ A plan. CanEnd plan) (λ A B. ends-followed) (λ A. ends-kept) (λ A. unasked-ends fits) header base
      p
      pressure normal Each (tt {0})
      (λ call k at fit. good-ends fits (rating_at (facts_of header base) p pressure normal call k at)
      (each-good Something (λ c g n. some-choice header pressure normal c g n (rules g n)) call k at))
      h cursor (each-fits cursor)

  -- and where they answer for 1 to 128 CPUs
  module _ (valid : IsLayout header.layout) where
    abbrev MayEnd : RatingPosition → Type 0
    MayEnd at = IsPositionWithin header.layout at × MayFindOnline header.layout at

    may-begin : MayEnd (States (record { flags = [] }) 0)
    may-begin =
        let some : 0 < header.layout.cpus = omega (arith, valid.cpus_least) in (omega arith, inl some)

    cursor-fits : (cursor : Cursor) → IsWithin header.layout cursor → CursorMayFindOnline header.layout cursor
        → CursorFits MayEnd cursor
    cursor-fits (Rates call at) within may = (within.1, may)
    cursor-fits (Bury c (burial.Folds at)) within may = (tt {0})
    cursor-fits (Bury c (burial.Rates at)) within may = (within, may)
    cursor-fits (Turn turn (Presses at)) within may = (within.1, may)
    cursor-fits (Turn turn (Tests at)) within may = (tt {0})
    cursor-fits (Turn turn (Settles g verdict at)) within may = (within.1, may)
    cursor-fits (Change change at) within may = (tt {0})
    cursor-fits (Value k at) within may = (tt {0})
    cursor-fits (System i at) within may = (tt {0})
    cursor-fits (Snapshot k at) within may = (tt {0})
    cursor-fits (Test g mark most at) within may = (tt {0})
    cursor-fits (Fold fold at) within may = (tt {0})

    pub cursor-ends_online : SomeStepFits → RulesAnswerOnline header pressure normal → (cursor : Cursor)
        → IsWithin header.layout cursor → CursorMayFindOnline header.layout cursor
        → CanEnd (cursor_at header base p pressure normal h cursor)
    cursor-ends_online fits rules cursor within may =
        cursor-holds (λ A plan. CanEnd plan) (λ A B. ends-followed) (λ A. ends-kept) (λ A. unasked-ends fits) header
        base
        p pressure normal MayEnd may-begin
        (λ call g at fit. rating-ends header valid base p pressure normal fits rules call g at fit.0 fit.1) h cursor
        (cursor-fits cursor within may)
