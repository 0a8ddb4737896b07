-- For other crates too: how a turn of kswapd goes on from its parts.
use Rattle.std.proofs.Common.{◌≡◌, ℕ, suc, ◌-◌, ◌≤◌, List, [], ◌∷◌, ◌++◌, refl, sym, ap, subst, arith}
use Rattle.std.specs.Prelude.{IfSome, None, Option, Some}
use Rattle.vms_calls.specs.Common.{CpuState, Facts, Header, History, PlaceId, State, Step, ZoneSize, after, facts_of}
use Rattle.vms_calls.specs.Common.{online_from}
use Rattle.vms_calls.specs.declared.answers.Balance.{Balance}
use Rattle.vms_calls.specs.declared.answers.Balance.TheVariants.{No, Yes}
use Rattle.vms_calls.specs.declared.answers.OrderVerdict.{OrderVerdict}
use Rattle.vms_plans.specs.declared.due_steps.DueStep.{DueStep}
use Rattle.vms_plans.specs.Common.{Plan, and_then, balance_plan, ends, recorded, states_plan, turn_plan}
use Rattle.vms_plans.proofs.PlanLaws.{told-answering}
use Rattle.vms_cursors.specs.Balances.{IsBalanceEnded, IsUnpassed, balance_at, tests_from}
use Rattle.vms_cursors.specs.Cursors.{GoesOn, HasEnded, IsDue, IsSame, IsUnended, Stops}
use Rattle.vms_cursors.specs.OnlineCpus.{flagged}
use Rattle.vms_cursors.specs.Ratings.{IsAnswered, online_plan, rating_at}
use Rattle.vms_cursors.specs.RatingClauses.{RatingDue}
use Rattle.vms_cursors.specs.TurnClauses.{TurnDue, TurnGoes, TurnSame, TurnStops}
use Rattle.vms_cursors.specs.Turns.{after_balance, after_pressure, turn_at}
use Rattle.vms_cursors.specs.declared.balance_positions.BalancePosition.{BalancePosition}
use Rattle.vms_cursors.specs.declared.balance_positions.BalancePosition.TheVariants as balance
use Rattle.vms_cursors.specs.declared.online_cpus.OnlineCpus.{OnlineCpus}
use Rattle.vms_cursors.specs.declared.rating_calls.RatingCall.{RatingCall}
use Rattle.vms_cursors.specs.declared.rating_calls.RatingCall.TheVariants.{Normal, Pressure}
use Rattle.vms_cursors.specs.declared.rating_positions.RatingPosition.{RatingPosition}
use Rattle.vms_cursors.specs.declared.rating_positions.RatingPosition.TheVariants.{States}
use Rattle.vms_cursors.specs.declared.turn_positions.TurnPosition.{TurnPosition}
use Rattle.vms_cursors.specs.declared.turn_positions.TurnPosition.TheVariants.{Presses, Tests, Settles}
use Rattle.vms_cursors.specs.declared.turns.Turn.{Turn}
use Rattle.vms_cursors.proofs.Asking.{rating-asks}
use Rattle.vms_cursors.proofs.BalanceGoes.{balance-begins}
use Rattle.vms_cursors.proofs.Followed.{followed-due, followed-goes, followed-same, followed-stops, recorded-due}
use Rattle.vms_cursors.proofs.Followed.{recorded-goes, recorded-is, recorded-same, recorded-stops, recorded-unended}
use Rattle.vms_cursors.proofs.Goes.{answering-due, answering-ended, answering-goes, answering-stops, same-runs}
use Rattle.vms_cursors.proofs.PlanEquations.{same-both, same-due, same-goes, same-stops}
use Rattle.vms_cursors.proofs.RatingBegins.{normal-begins, pressure-begins}

-- a call that gives thresholds begins with the state of CPU 0
pub states-unended : (facts : Facts) (p : ℕ) (pressure normal : ZoneSize → ℕ → ℕ → Type 0) (call : RatingCall)
    (h : History) (online : OnlineCpus) → 1 ≤ facts.layout.cpus
    → IsUnended (rating_at facts p pressure normal call h (States online 0))
states-unended facts p pressure normal call h online some =
    let one_more : suc (facts.layout.cpus - 1) ≡ facts.layout.cpus - 0 = omega (arith, some) in
    subst (λ n. IsUnended (and_then (recorded p h (states_plan 0 n [])) (λ (found : List CpuState × History).
    online_plan facts p pressure normal call (flagged online.flags 0 0 ++ online_from 0 found.0) found.1)))
    one_more (λ a run. run)

module _ (header : Header) (base : State) (p : ℕ) (pressure normal : ZoneSize → ℕ → ℕ → Type 0) (turn : Turn)
    (h : History) where
  abbrev facts : Facts
  facts = facts_of header base

  abbrev more : Unit {0} × History → Plan Balance
  more = after_pressure header base p pressure normal turn

  abbrev last : Balance × History → Plan Balance
  last = after_balance header base p pressure normal turn

  pub turn-begins : (online : OnlineCpus) → turn_plan header base pressure normal turn.node p turn.order turn.most h
      ≡ turn_at header base p pressure normal turn h (Presses (States online 0))
  turn-begins online = ap (λ plan. and_then (recorded p h plan) more)
      (pressure-begins facts p pressure normal h online turn.node)

  -- under pressure
  module _ (at : RatingPosition) where
    abbrev presses : Plan (Unit {0})
    presses = rating_at facts p pressure normal (Pressure turn.node) h at

    abbrev kept : Plan (Unit {0} × History)
    kept = recorded p h presses

    pub presses-due : (due : DueStep) → IsDue presses due
        → IsDue (turn_at header base p pressure normal turn h (Presses at)) due
    presses-due due is =
        followed-due kept more (recorded-unended p h presses is.1) due (recorded-due p h presses due is)

    module _ (unended : IsUnended presses) (step : Step) where
      pub presses-stop : Stops presses step
          → Stops (turn_at header base p pressure normal turn h (Presses at)) step
      presses-stop stops = followed-stops kept more (recorded-unended p h presses unended) step
          (recorded-stops p h presses step stops)

      pub presses-go : (later : RatingPosition)
          → GoesOn presses step (rating_at facts p pressure normal (Pressure turn.node) (after p (step ∷ []) h) later)
          → GoesOn (turn_at header base p pressure normal turn h (Presses at)) step
          (turn_at header base p pressure normal turn (after p (step ∷ []) h) (Presses later))
      presses-go later goes =
          let next = rating_at facts p pressure normal (Pressure turn.node) (after p (step ∷ []) h) later in
          followed-goes kept more (recorded-unended p h presses unended) step
          (recorded p (after p (step ∷ []) h) next) (recorded-goes p h presses step next goes)

    -- and at the end of that
    pub presses-ended : IsAnswered at → HasEnded presses (tt {0}) → (first : BalancePosition)
        → IsSame (tests_from header turn 0) (balance_at header turn first)
        → IsSame (turn_at header base p pressure normal turn h (Presses at))
        (turn_at header base p pressure normal turn h (Tests first))
    presses-ended answered ended first same =
        let tests = balance_plan header turn.node turn.order turn.most in
        let here = turn_at header base p pressure normal turn h (Presses at) in
        same-both here (and_then (recorded p h tests) last)
        (turn_at header base p pressure normal turn h (Tests first))
        (same-runs here (and_then (recorded p h tests) last) (ap (λ plan. and_then plan more)
        (recorded-is p h presses (tt {0})
        (rating-asks facts p pressure normal (Pressure turn.node) h at answered) ended)))
        (followed-same (recorded p h tests) last (recorded p h (balance_at header turn first))
        (recorded-same p h tests (balance_at header turn first)
        (subst (λ plan. IsSame plan (balance_at header turn first)) (sym (balance-begins header turn)) same)))

  -- in the balance test
  module _ (at : BalancePosition) where
    abbrev tests : Plan Balance
    tests = balance_at header turn at

    pub tests-same : (other : BalancePosition) → IsSame tests (balance_at header turn other)
        → IsSame (turn_at header base p pressure normal turn h (Tests at))
        (turn_at header base p pressure normal turn h (Tests other))
    tests-same other same = followed-same (recorded p h tests) last (recorded p h (balance_at header turn other))
        (recorded-same p h tests (balance_at header turn other) same)

    pub tests-due : (due : DueStep) → IsDue tests due
        → IsDue (turn_at header base p pressure normal turn h (Tests at)) due
    tests-due due is = followed-due (recorded p h tests) last (recorded-unended p h tests is.1) due
        (recorded-due p h tests due is)

    module _ (unended : IsUnended tests) (step : Step) where
      pub tests-stop : Stops tests step → Stops (turn_at header base p pressure normal turn h (Tests at)) step
      tests-stop stops = followed-stops (recorded p h tests) last (recorded-unended p h tests unended) step
          (recorded-stops p h tests step stops)

      pub tests-go : (later : BalancePosition) → GoesOn tests step (balance_at header turn later)
          → GoesOn (turn_at header base p pressure normal turn h (Tests at)) step
          (turn_at header base p pressure normal turn (after p (step ∷ []) h) (Tests later))
      tests-go later goes = followed-goes (recorded p h tests) last (recorded-unended p h tests unended) step
          (recorded p (after p (step ∷ []) h) (balance_at header turn later))
          (recorded-goes p h tests step (balance_at header turn later) goes)

  -- once a zone has passed
  module _ (g : PlaceId) (verdict : OrderVerdict) where
    abbrev tell : Unit {0} → Balance
    tell done = Yes g verdict

    pub passed-same : (online : OnlineCpus)
        → IsSame (turn_at header base p pressure normal turn h (Tests (balance.Ended (Yes g verdict))))
        (turn_at header base p pressure normal turn h (Settles g verdict (States online 0)))
    passed-same online =
        same-runs (turn_at header base p pressure normal turn h (Tests (balance.Ended (Yes g verdict))))
        (turn_at header base p pressure normal turn h (Settles g verdict (States online 0)))
        (ap (λ plan. and_then plan (λ done. ends (Yes g verdict)))
        (normal-begins facts p pressure normal h online turn.node))

    pub passed-unended : (online : OnlineCpus) → 1 ≤ header.layout.cpus
        → IsUnended (turn_at header base p pressure normal turn h (Settles g verdict (States online 0)))
    passed-unended online some answer ended =
        let told = told-answering (rating_at facts p pressure normal (Normal turn.node) h (States online 0)) tell []
        answer ended in
        states-unended facts p pressure normal (Normal turn.node) h online some told.0 told.1

    module _ (at : RatingPosition) where
      abbrev settles : Plan (Unit {0})
      settles = rating_at facts p pressure normal (Normal turn.node) h at

      pub settles-due : (due : DueStep) → IsDue settles due
          → IsDue (turn_at header base p pressure normal turn h (Settles g verdict at)) due
      settles-due due is = answering-due tell settles due is

      pub settles-ended : HasEnded settles (tt {0})
          → HasEnded (turn_at header base p pressure normal turn h (Settles g verdict at)) (Yes g verdict)
      settles-ended ended = answering-ended tell settles (tt {0}) ended

      pub settles-stop : (step : Step) → Stops settles step
          → Stops (turn_at header base p pressure normal turn h (Settles g verdict at)) step
      settles-stop step stops = answering-stops tell settles step stops

      pub settles-go : (step : Step) (later : RatingPosition)
          → GoesOn settles step (rating_at facts p pressure normal (Normal turn.node) (after p (step ∷ []) h) later)
          → GoesOn (turn_at header base p pressure normal turn h (Settles g verdict at)) step
          (turn_at header base p pressure normal turn (after p (step ∷ []) h) (Settles g verdict later))
      settles-go step later goes = answering-goes tell settles
          (rating_at facts p pressure normal (Normal turn.node) (after p (step ∷ []) h) later) step goes

-- the end of a balance test that no zone passed
pub failed-stops : (header : Header) (base : State) (p : ℕ) (pressure normal : ZoneSize → ℕ → ℕ → Type 0) (turn : Turn)
    (h : History) (answer : Balance) (step : Step) → IsUnpassed (balance.Ended answer)
    → Stops (turn_at header base p pressure normal turn h (Tests (balance.Ended answer))) step
failed-stops header base p pressure normal turn h (Yes g verdict) step unpassed = absurd unpassed
failed-stops header base p pressure normal turn h No step unpassed = λ steps answer run. run

pub failed-ended : (header : Header) (base : State) (p : ℕ) (pressure normal : ZoneSize → ℕ → ℕ → Type 0) (turn : Turn)
    (h : History) (at : BalancePosition) → IsBalanceEnded at → IsUnpassed at
    → HasEnded (turn_at header base p pressure normal turn h (Tests at)) No
failed-ended header base p pressure normal turn h (balance.Zone g at) ended unpassed = absurd ended
failed-ended header base p pressure normal turn h (balance.Ended (Yes g verdict)) ended unpassed = absurd unpassed
failed-ended header base p pressure normal turn h (balance.Ended No) ended unpassed = refl

-- the step that is due in a part, if there is one
module _ (header : Header) (pressure normal : ZoneSize → ℕ → ℕ → Type 0) (turn : Turn) where
  pub presses-some_due : (at : RatingPosition) (due : Option DueStep)
      → IfSome due (λ d. RatingDue header.layout pressure normal (Pressure turn.node) at d)
      → IfSome due (λ d. TurnDue header pressure normal turn (Presses at) d)
  presses-some_due at None is = is
  presses-some_due at (Some d) is = λ base p h.
      presses-due header base p pressure normal turn h at d (is header.sizes base p h)

  pub tests-some_due : (at : BalancePosition) (due : Option DueStep)
      → IfSome due (λ d. IsDue (balance_at header turn at) d)
      → IfSome due (λ d. TurnDue header pressure normal turn (Tests at) d)
  tests-some_due at None is = is
  tests-some_due at (Some d) is = λ base p h. tests-due header base p pressure normal turn h at d is

  pub settles-some_due : (g : PlaceId) (verdict : OrderVerdict) (at : RatingPosition) (due : Option DueStep)
      → IfSome due (λ d. RatingDue header.layout pressure normal (Normal turn.node) at d)
      → IfSome due (λ d. TurnDue header pressure normal turn (Settles g verdict at) d)
  settles-some_due g verdict at None is = is
  settles-some_due g verdict at (Some d) is = λ base p h.
      settles-due header base p pressure normal turn h g verdict at d (is header.sizes base p h)

  -- what is said of a position is said of another of the same plan
  module _ (at other : TurnPosition) (same : TurnSame header pressure normal turn at other) where
    pub turn-due : (due : Option DueStep) → IfSome due (λ d. TurnDue header pressure normal turn other d)
        → IfSome due (λ d. TurnDue header pressure normal turn at d)
    turn-due None is = is
    turn-due (Some d) is = λ base p h. same-due (turn_at header base p pressure normal turn h at)
        (turn_at header base p pressure normal turn h other) d (same base p h) (is base p h)

    pub turn-goes : (step : Step) (later : Option TurnPosition)
        → IfSome later (λ x. TurnGoes header pressure normal turn other step x)
        → IfSome later (λ x. TurnGoes header pressure normal turn at step x)
    turn-goes step None is = is
    turn-goes step (Some x) goes = λ base p h. same-goes (turn_at header base p pressure normal turn h at)
        (turn_at header base p pressure normal turn h other) step
        (turn_at header base p pressure normal turn (after p (step ∷ []) h) x) (same base p h) (goes base p h)

    pub turn-stops : (step : Step) → TurnStops header pressure normal turn other step
        → TurnStops header pressure normal turn at step
    turn-stops step stops = λ base p h. same-stops (turn_at header base p pressure normal turn h at)
        (turn_at header base p pressure normal turn h other) step (same base p h) (stops base p h)
