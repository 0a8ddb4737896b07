-- The calls of the control handle by rules that answer as the kernel's do are calls by the kernel's.
use Rattle.std.proofs.Common.{ℕ, List, Result, Ok, Err, IfOk, MatchResult}
use Rattle.vms_control.specs.SettledMarks.{SettlesAll, SettlesNode}
use Rattle.vms_counters.specs.Calls.{IsNodeTest, Makes, RefusesRating, RefusesRefresh, RefusesTurn, layout_of}
use Rattle.vms_counters.specs.Handles.{PageHandle}
use Rattle.vms_counters.specs.declared.errors.CallError.{CallError}
use Rattle.vms_kswapd.specs.Common.{NamesPassed}
use Rattle.vms_world.specs.Common.{Balance, ByNormal, ByPressure, IsNode, IsTurn, PlaceId, Refreshes, SetsNormal}
use Rattle.vms_world.specs.Common.{SetsPressure, Step, ZoneSize}
use Rattle.vozhkell_c.specs.ControlCalls.{IsNormal, IsPressed, IsRefreshed, IsTurned}
use Rattle.vozhkell_c.specs.Openings.{GoesByNormal, GoesByPressure}
use Rattle.vozhkell_c.proofs.KernelRules.{normal-kernel, normal_marks-kernel, pressure-kernel, pressure_marks-kernel}
use Rattle.vozhkell_c.proofs.KernelRules.{refresh-kernel, refresh_marks-kernel, turn-kernel}

makes-into : (known : Type 0) (Is Other : List Step → Type 0) → ((steps : List Step) → Is steps → Other steps)
    → (new old : PageHandle) → Makes known Is new old → Makes known Other new old
makes-into known Is Other into new old makes = record {
  is_known = makes.is_known;
  header = makes.header;
  steps = makes.steps;
  is_call = into makes.steps makes.is_call;
  made = makes.made;
  volume = makes.volume;
}

module _ (normal : ZoneSize → ℕ → ℕ → Type 0) (goes_normal : GoesByNormal normal) (new old : PageHandle) where
  pub normal-is : (node : PlaceId) (result : Result (Unit {0}) CallError)
      → MatchResult result
      (λ _. Makes (IsNode (layout_of old) node.number)
      (λ steps. SetsNormal old.pass.facts normal node old.pass.number old.pass.seen steps) new old)
      (RefusesRating 0 new old node)
      → IfOk result (λ _. SettlesNode old.pass.facts (ByNormal normal) node new.pass old.pass)
      → IsNormal node new old result
  normal-is node (Ok done) made marks = (
    makes-into _ _ _ (normal-kernel normal goes_normal old.pass.facts node old.pass.number old.pass.seen) new old made,
    normal_marks-kernel normal goes_normal old.pass.facts node new.pass old.pass marks,
  )
  normal-is node (Err error) made marks = (made, marks)

  pub refresh-is : (result : Result (Unit {0}) CallError)
      → MatchResult result
      (λ _. Makes (Unit {0})
      (λ steps. Refreshes old.pass.facts normal old.pass.number old.pass.seen steps) new old)
      (RefusesRefresh new old)
      → IfOk result (λ _. SettlesAll old.pass.facts normal new.pass old.pass) → IsRefreshed new old result
  refresh-is (Ok done) made marks = (
    makes-into _ _ _ (refresh-kernel normal goes_normal old.pass.facts old.pass.number old.pass.seen) new old made,
    refresh_marks-kernel normal goes_normal old.pass.facts new.pass old.pass marks,
  )
  refresh-is (Err error) made marks = (made, marks)

  module _ (pressure : ZoneSize → ℕ → ℕ → Type 0) (goes_pressure : GoesByPressure pressure) where
    pub pressure-is : (node : PlaceId) (result : Result (Unit {0}) CallError)
        → MatchResult result
        (λ _. Makes (IsNode (layout_of old) node.number)
        (λ steps. SetsPressure old.pass.facts pressure normal node old.pass.number old.pass.seen steps) new old)
        (RefusesRating 0 new old node)
        → IfOk result (λ _. SettlesNode old.pass.facts (ByPressure pressure normal) node new.pass old.pass)
        → IsPressed node new old result
    pressure-is node (Ok done) made marks = (
      makes-into _ _ _
          (pressure-kernel normal goes_normal pressure goes_pressure old.pass.facts node old.pass.number old.pass.seen)
          new old made,
      pressure_marks-kernel normal goes_normal pressure goes_pressure old.pass.facts node new.pass old.pass marks,
    )
    pressure-is node (Err error) made marks = (made, marks)

    pub turn-is : (node : PlaceId) (order most : ℕ) (result : Result Balance CallError)
        → MatchResult result
        (λ balance. Makes (IsNodeTest (layout_of old) node order most)
        (λ steps. IsTurn old.header old.pass.facts.base pressure normal node order most old.pass.number old.pass.seen
        steps balance) new old)
        (RefusesTurn new old node order most)
        → IfOk result (NamesPassed old.header new.pass old.pass node order most)
        → IsTurned node order most new old result
    turn-is node order most (Ok balance) made passed = (
      makes-into _ _ _
          (λ steps is. turn-kernel normal goes_normal pressure goes_pressure old.header old.pass.facts.base node order
          most old.pass.number old.pass.seen steps balance is) new old made,
      passed,
    )
    turn-is node order most (Err error) made passed = (made, passed)
