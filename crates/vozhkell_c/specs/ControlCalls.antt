-- The calls of the control handle that set thresholds by the kernel's rules, with what each result of them means: the
-- clauses of `vms_counters` by name.
use Rattle.std.specs.Prelude.{◌≡◌, ℕ, [], Result, IfOk, MatchResult}
use Rattle.vms_world.specs.Common.{Balance, ByNormal, ByPressure, IsNode, IsTurn, PlaceId, Refreshes, SetsNormal}
use Rattle.vms_world.specs.Common.{SetsPressure}
use Rattle.vms_control.specs.SettledMarks.{SettlesAll, SettlesNode}
use Rattle.vms_kswapd.specs.Common.{NamesPassed}
use Rattle.vms_counters.specs.Calls.{IsNodeTest, Makes, RefusesRating, RefusesRefresh, RefusesTurn, layout_of}
use Rattle.vms_counters.specs.Handles.{PageHandle}
use Rattle.vms_counters.specs.declared.errors.CallError.{CallError}
use Rattle.vozhkell_c.specs.Openings.{normal_rule, pressure_rule}

-- the thresholds of a node's zones are set by the kernel's rule under pressure, and the marks that stand then
abbrev pub IsPressed : PlaceId → PageHandle → PageHandle → Result (Unit {0}) CallError → Type 0
IsPressed node new old result =
    MatchResult result
    (λ _. Makes (IsNode (layout_of old) node.number)
    (λ steps. SetsPressure old.pass.facts pressure_rule normal_rule node old.pass.number old.pass.seen steps) new old)
    (RefusesRating 0 new old node)
    × IfOk result (λ _. SettlesNode old.pass.facts (ByPressure pressure_rule normal_rule) node new.pass old.pass)

-- the same by the normal rule
abbrev pub IsNormal : PlaceId → PageHandle → PageHandle → Result (Unit {0}) CallError → Type 0
IsNormal node new old result =
    MatchResult result
    (λ _. Makes (IsNode (layout_of old) node.number)
    (λ steps. SetsNormal old.pass.facts normal_rule node old.pass.number old.pass.seen steps) new old)
    (RefusesRating 0 new old node)
    × IfOk result (λ _. SettlesNode old.pass.facts (ByNormal normal_rule) node new.pass old.pass)

-- all thresholds are set by the normal rule
abbrev pub IsRefreshed : PageHandle → PageHandle → Result (Unit {0}) CallError → Type 0
IsRefreshed new old result =
    MatchResult result
    (λ _. Makes (Unit {0})
    (λ steps. Refreshes old.pass.facts normal_rule old.pass.number old.pass.seen steps) new old)
    (RefusesRefresh new old)
    × IfOk result (λ _. SettlesAll old.pass.facts normal_rule new.pass old.pass)

-- a turn of kswapd by both rules, and what was true of a yes
abbrev pub IsTurned : PlaceId → ℕ → ℕ → PageHandle → PageHandle → Result Balance CallError → Type 0
IsTurned node order most new old result =
    MatchResult result
    (λ balance. Makes (IsNodeTest (layout_of old) node order most)
    (λ steps. IsTurn old.header old.pass.facts.base pressure_rule normal_rule node order most old.pass.number
    old.pass.seen steps balance) new old)
    (RefusesTurn new old node order most)
    × IfOk result (NamesPassed old.header new.pass old.pass node order most)
