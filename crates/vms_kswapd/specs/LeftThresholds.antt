-- Which thresholds stand after a turn of kswapd.
use Rattle.std.specs.Prelude.{◌≢◌, ℕ, List, Contains, length}
use Rattle.vms_calls.specs.Common.{Header, CpuId, PlaceId, CpuState, ZoneSize, online_from, IsCpu, IsZone, size_at}
use Rattle.vms_calls.specs.Common.{facts_of, last_mark, IsTurn, State, Facts, Step, threshold_at, History, state_after}
use Rattle.vms_calls.specs.declared.answers.Balance.{Balance}
use Rattle.vms_calls.specs.declared.answers.Balance.TheVariants.{Yes, No}

-- in each zone whose mark a call on thresholds found not 0, a threshold of the rule stands on each CPU that it found
-- online
abbrev pub StandsByRule : Facts → (rule : ZoneSize → ℕ → ℕ → Type 0) → (states : List CpuState) → (call : List Step)
    → History → Type 0
StandsByRule facts rule states call h = (g : ℕ) (c : CpuId) → IsZone facts.layout g → IsCpu facts.layout c.number →
    last_mark g call 0 ≢ 0 → Contains (online_from 0 states) c →
    rule (size_at facts.sizes g) (length (online_from 0 states)) (threshold_at (state_after facts h) c.number g)

-- after a yes those of the normal rule stand, after a no those of the pressure rule
abbrev pub LeavesRule : (header : Header) (base : State) (pressure normal : ZoneSize → ℕ → ℕ → Type 0) (n : PlaceId)
    (order most p : ℕ) (h : History) (steps : List Step) (answer : Balance)
    → IsTurn header base pressure normal n order most p h steps answer → History → Type 0
LeavesRule header base pressure normal n order most p h steps (Yes g verdict) turn later =
    StandsByRule (facts_of header base) normal turn.settles.states turn.further later
LeavesRule header base pressure normal n order most p h steps No turn later =
    StandsByRule (facts_of header base) pressure turn.presses.states turn.pressed later
