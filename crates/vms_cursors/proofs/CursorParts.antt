-- What holds of the parts of a plan and of what follows them holds of the plan at each cursor.
use Rattle.std.proofs.Common.{ℕ, [], ◌∷◌, sym, subst}
use Rattle.vms_calls.specs.Common.{ByNormal, CpuId, Facts, Header, History, SetO, State, Step, ZoneSize, after}
use Rattle.vms_calls.specs.Common.{facts_of, node_number, zones_up_to}
use Rattle.vms_calls.specs.declared.answers.Balance.{Balance}
use Rattle.vms_calls.specs.declared.answers.Balance.TheVariants.{Yes, No}
use Rattle.vms_calls.specs.declared.answers.Verdict.{Verdict}
use Rattle.vms_calls.specs.declared.page_calls.PageAnswer.{PageAnswer}
use Rattle.vms_calls.specs.declared.page_calls.PageAnswer.TheVariants as answer
use Rattle.vms_plans.specs.Common.{Plan, and_then, balance_plan, ends, makes, node_plan, recorded, refresh_plan}
use Rattle.vms_plans.specs.Common.{settles_plan}
use Rattle.vms_cursors.specs.Balances.{balance_at}
use Rattle.vms_cursors.specs.Burials.{after_burial_fold, burial_at, fold_of}
use Rattle.vms_cursors.specs.Calls.{cursor_at}
use Rattle.vms_cursors.specs.Changes.{change_at}
use Rattle.vms_cursors.specs.Folds.{fold_at}
use Rattle.vms_cursors.specs.Loads.{system_at, value_at}
use Rattle.vms_cursors.specs.Ratings.{rating_at}
use Rattle.vms_cursors.specs.Snapshots.{snapshot_at}
use Rattle.vms_cursors.specs.Tests.{test_at}
use Rattle.vms_cursors.specs.Turns.{after_balance, after_pressure, turn_at}
use Rattle.vms_cursors.specs.declared.burial_positions.BurialPosition.{BurialPosition}
use Rattle.vms_cursors.specs.declared.burial_positions.BurialPosition.TheVariants as burial
use Rattle.vms_cursors.specs.declared.cursors.Cursor.{Cursor}
use Rattle.vms_cursors.specs.declared.cursors.Cursor.TheVariants.{Change, Value, System, Snapshot, Test, Fold, Rates}
use Rattle.vms_cursors.specs.declared.cursors.Cursor.TheVariants.{Bury, Turn}
use Rattle.vms_cursors.specs.declared.online_cpus.OnlineCpus.{OnlineCpus}
use Rattle.vms_cursors.specs.declared.rating_calls.RatingCall.{RatingCall}
use Rattle.vms_cursors.specs.declared.rating_calls.RatingCall.TheVariants as call
use Rattle.vms_cursors.specs.declared.rating_positions.RatingPosition.{RatingPosition}
use Rattle.vms_cursors.specs.declared.rating_positions.RatingPosition.TheVariants.{States}
use Rattle.vms_cursors.specs.declared.turn_positions.TurnPosition.{TurnPosition}
use Rattle.vms_cursors.specs.declared.turn_positions.TurnPosition.TheVariants.{Presses, Tests, Settles}
use Rattle.vms_cursors.specs.declared.turns.Turn.{Turn as TurnCall}
use Rattle.vms_cursors.proofs.OpenBalances.{balance-open, zones-open}
use Rattle.vms_cursors.proofs.OpenPositions.{IsGood, change-open, fold-open, snapshot-open, system-open, test-open}
use Rattle.vms_cursors.proofs.OpenPositions.{value-open}
use Rattle.vms_cursors.proofs.RatingBegins.{normal-begins, refresh-begins}

-- a plan without questions
abbrev pub Never : (ℕ → ℕ → Type 0) → Type 0
Never Allows = ⊥

-- nothing was found online yet
pub nobody : OnlineCpus
nobody = record { flags = [] }

-- what is needed of the positions of a call that gives thresholds
module _ (Fits : RatingPosition → Type 0) where
  abbrev pub BurialFits : BurialPosition → Type 0
  BurialFits (burial.Folds at) = Unit {0}
  BurialFits (burial.Rates at) = Fits at

  abbrev pub TurnFits : TurnPosition → Type 0
  TurnFits (Presses at) = Fits at
  TurnFits (Tests at) = Unit {0}
  TurnFits (Settles g verdict at) = Fits at

  abbrev pub CursorFits : Cursor → Type 0
  CursorFits (Rates call at) = Fits at
  CursorFits (Bury c at) = BurialFits at
  CursorFits (Turn turn at) = TurnFits at
  CursorFits _ = Unit {0}

module _ (Holds : (A : Type 0) → Plan A → Type 0)
    (followed : (A B : Type 0) (plan : Plan A) (more : A → Plan B) → Holds A plan → ((a : A) → Holds B (more a))
    → Holds B (and_then plan more))
    (kept : (A : Type 0) (p : ℕ) (h : History) (plan : Plan A) → Holds A plan
    → Holds (A × History) (recorded p h plan))
    (unasked : (A : Type 0) (plan : Plan A) → IsGood Never plan → Holds A plan)
    (header : Header) (base : State) (p : ℕ) (pressure normal : ZoneSize → ℕ → ℕ → Type 0)
    (Fits : RatingPosition → Type 0) (begins : Fits (States nobody 0))
    (rated : (call : RatingCall) (h : History) (at : RatingPosition) → Fits at
    → Holds (Unit {0}) (rating_at (facts_of header base) p pressure normal call h at)) where
  abbrev facts : Facts
  facts = facts_of header base

  ended : {A : Type 0} (a : A) → Holds A (ends a)
  ended {A} a = unasked A (ends a) (tt {0})

  made : (step : Step) (plan : Plan (Unit {0})) → Holds (Unit {0}) plan → Holds (Unit {0}) (makes step plan)
  made step plan here = followed (Unit {0}) (Unit {0}) (makes step (ends (tt {0}))) (λ done. plan)
      (unasked (Unit {0}) (makes step (ends (tt {0}))) (λ other fits. (tt {0}))) (λ done. here)

  told : {A : Type 0} (tell : A → PageAnswer) (plan : Plan A) → Holds A plan
      → Holds PageAnswer (and_then plan (λ a. ends (tell a)))
  told {A} tell plan here = followed A PageAnswer plan (λ a. ends (tell a)) here (λ a. ended (tell a))

  -- burials
  module _ (c : CpuId) where
    refreshed : (h : History) → Holds (Unit {0}) (refresh_plan facts p normal h)
    refreshed h = subst (Holds (Unit {0})) (sym (refresh-begins facts p pressure normal h nobody))
        (rated call.Refresh h (States nobody 0) begins)

    burial-holds : (h : History) (at : BurialPosition) → BurialFits Fits at
        → Holds (Unit {0}) (burial_at facts p pressure normal c h at)
    burial-holds h (burial.Folds at) fits =
        let fold = fold_at header.layout (fold_of c) at in
        followed (Unit {0} × History) (Unit {0}) (recorded p h fold) (after_burial_fold facts p pressure normal c)
        (kept (Unit {0}) p h fold (unasked (Unit {0}) fold (fold-open Never header.layout (fold_of c) at)))
        (λ folded. made (SetO c) (refresh_plan facts p normal (after p (SetO c ∷ []) folded.1))
        (refreshed (after p (SetO c ∷ []) folded.1)))
    burial-holds h (burial.Rates at) fits = rated call.Refresh h at fits

  -- turns of kswapd
  module _ (turn : TurnCall) where
    settled : (balance : Balance) (h : History)
        → Holds Balance (settles_plan header base pressure normal turn.node p balance h)
    settled (Yes g verdict) h = followed (Unit {0}) Balance (node_plan facts p (ByNormal normal) turn.node h)
        (λ done. ends (Yes g verdict))
        (subst (Holds (Unit {0})) (sym (normal-begins facts p pressure normal h nobody turn.node))
        (rated (call.Normal turn.node) h (States nobody 0) begins))
        (λ done. ended (Yes g verdict))
    settled No h = ended No

    pressed : (done : Unit {0} × History) → Holds Balance (after_pressure header base p pressure normal turn done)
    pressed done =
        let tests = balance_plan header turn.node turn.order turn.most in
        followed (Balance × History) Balance (recorded p done.1 tests) (after_balance header base p pressure normal
        turn)
        (kept Balance p done.1 tests (unasked Balance tests
        (zones-open Never header turn (zones_up_to header.layout turn.most (node_number header.layout turn.node)))))
        (λ balance. settled balance.0 balance.1)

    turn-holds : (h : History) (at : TurnPosition) → TurnFits Fits at
        → Holds Balance (turn_at header base p pressure normal turn h at)
    turn-holds h (Presses at) fits =
        let presses = rating_at facts p pressure normal (call.Pressure turn.node) h at in
        followed (Unit {0} × History) Balance (recorded p h presses) (after_pressure header base p pressure normal turn)
        (kept (Unit {0}) p h presses (rated (call.Pressure turn.node) h at fits)) pressed
    turn-holds h (Tests at) fits =
        let tests = balance_at header turn at in
        followed (Balance × History) Balance (recorded p h tests) (after_balance header base p pressure normal turn)
        (kept Balance p h tests (unasked Balance tests (balance-open Never header turn at)))
        (λ balance. settled balance.0 balance.1)
    turn-holds h (Settles g verdict at) fits =
        followed (Unit {0}) Balance (rating_at facts p pressure normal (call.Normal turn.node) h at) (λ done. ends (Yes
        g verdict))
        (rated (call.Normal turn.node) h at fits) (λ done. ended (Yes g verdict))

  pub cursor-holds : (h : History) (cursor : Cursor) → CursorFits Fits cursor
      → Holds PageAnswer (cursor_at header base p pressure normal h cursor)
  cursor-holds h (Change change at) fits = told (λ made. answer.Done) (change_at header.layout change at)
      (unasked (Unit {0}) (change_at header.layout change at) (change-open Never header.layout change at))
  cursor-holds h (Value k at) fits = told (λ pages. answer.Value pages) (value_at k at)
      (unasked ℕ (value_at k at) (value-open Never k at))
  cursor-holds h (System i at) fits = told (λ pages. answer.System pages) (system_at i at)
      (unasked ℕ (system_at i at) (system-open Never i at))
  cursor-holds h (Snapshot k at) fits = told (λ pages. answer.Snapshot pages) (snapshot_at header.layout k at)
      (unasked ℕ (snapshot_at header.layout k at) (snapshot-open Never header.layout k at))
  cursor-holds h (Test g mark most at) fits = told (λ verdict. answer.Tested verdict) (test_at header g mark most at)
      (unasked Verdict (test_at header g mark most at) (test-open Never header g mark most at))
  cursor-holds h (Fold fold at) fits = told (λ made. answer.Done) (fold_at header.layout fold at)
      (unasked (Unit {0}) (fold_at header.layout fold at) (fold-open Never header.layout fold at))
  cursor-holds h (Rates call at) fits = told (λ made. answer.Done) (rating_at facts p pressure normal call h at)
      (rated call h at fits)
  cursor-holds h (Bury c at) fits = told (λ made. answer.Done) (burial_at facts p pressure normal c h at)
      (burial-holds c h at fits)
  cursor-holds h (Turn turn at) fits = told (λ balance. answer.Balanced balance)
      (turn_at header base p pressure normal turn h at) (turn-holds turn h at fits)
