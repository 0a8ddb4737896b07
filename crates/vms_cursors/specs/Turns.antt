-- The plan of what is left of a turn of kswapd at each position.
use Rattle.std.specs.Prelude.{ℕ, ◌≤◌}
use Rattle.vms_calls.specs.Common.{Header, History, IsNode, Shape, State, ZoneSize, facts_of}
use Rattle.vms_calls.specs.declared.answers.Balance.{Balance}
use Rattle.vms_calls.specs.declared.answers.Balance.TheVariants.{Yes, No}
use Rattle.vms_plans.specs.Common.{Plan, and_then, balance_plan, ends, recorded, settles_plan}
use Rattle.vms_cursors.specs.Balances.{IsBalanceWithin, balance_at}
use Rattle.vms_cursors.specs.Ratings.{IsAnswered, IsPositionWithin, rating_at}
use Rattle.vms_cursors.specs.declared.rating_calls.RatingCall.TheVariants.{Normal, Pressure}
use Rattle.vms_cursors.specs.declared.turn_positions.TurnPosition.{TurnPosition}
use Rattle.vms_cursors.specs.declared.turn_positions.TurnPosition.TheVariants.{Presses, Tests, Settles}
use Rattle.vms_cursors.specs.declared.turns.Turn.{Turn}

module _ (header : Header) (base : State) (p : ℕ) (pressure normal : ZoneSize → ℕ → ℕ → Type 0) (turn : Turn) where
  -- after a balance test
  abbrev pub after_balance : Balance × History → Plan Balance
  after_balance settled = settles_plan header base pressure normal turn.node p settled.0 settled.1

  -- after the thresholds under pressure
  abbrev pub after_pressure : Unit {0} × History → Plan Balance
  after_pressure pressed =
      and_then (recorded p pressed.1 (balance_plan header turn.node turn.order turn.most)) after_balance

  abbrev pub turn_at : History → TurnPosition → Plan Balance
  turn_at h (Presses at) =
      and_then (recorded p h (rating_at (facts_of header base) p pressure normal (Pressure turn.node) h at))
      after_pressure
  turn_at h (Tests at) = and_then (recorded p h (balance_at header turn at)) after_balance
  turn_at h (Settles g verdict at) =
      and_then (rating_at (facts_of header base) p pressure normal (Normal turn.node) h at)
      (λ done. ends (Yes g verdict))

-- the answer where the turn has ended
abbrev pub turn_answer : TurnPosition → Balance
turn_answer (Settles g verdict at) = Yes g verdict
turn_answer _ = No

-- the node is one of the layout, and the order and the zone index are some
abbrev pub IsTurnWithin : Shape → Turn → Type 0
IsTurnWithin shape turn = IsNode shape turn.node.number × (turn.order ≤ 10) × (turn.most ≤ 3)

abbrev pub IsTurnPositionWithin : Shape → TurnPosition → Type 0
IsTurnPositionWithin shape (Presses at) = IsPositionWithin shape at
IsTurnPositionWithin shape (Tests at) = IsBalanceWithin shape at
IsTurnPositionWithin shape (Settles g verdict at) = IsPositionWithin shape at

-- no rule is asked
abbrev pub IsTurnAnswered : TurnPosition → Type 0
IsTurnAnswered (Presses at) = IsAnswered at
IsTurnAnswered (Tests at) = Unit {0}
IsTurnAnswered (Settles g verdict at) = IsAnswered at
