-- Where a walk stands in the acts of its lane.
use Rattle.std.specs.Prelude.{◌≡◌, ℕ, ◌≤◌, false, if◌then◌else◌, List, [], ◌∷◌, ◌++◌, length, take, Option, Some, None}
use Rattle.std.specs.Prelude.{IfSome}
use Rattle.vms_core.specs.Pages.{History}
use Rattle.vms_cursors.specs.Calls.{IsAffordable, IsCallWithin, IsReady, IsWithin, cursor_at, may_ask}
use Rattle.vms_cursors.specs.Cursors.{IsDue}
use Rattle.vms_cursors.specs.declared.cursors.Cursor.{Cursor}
use Rattle.vms_world.specs.Common.{Act, Control, Cpu, Header, Lane, PageSteps, Shape, State, ZoneSize, own, page_call}
use Rattle.vms_own_acts.specs.Common.{IsUnderWay, MakesInRow}
use Rattle.vms_walks.specs.declared.open_calls.DueCall.{DueCall}
use Rattle.vms_walks.specs.declared.walks.Walk.{Walk}

-- the call of an act, if it makes one on the page counters, is on a counter, a zone or a node of the layout, and a
-- change is by no more than the volume of a CPU
abbrev pub IsPageAct : Shape → Lane → Act → Type 0
IsPageAct shape lane act = IfSome (page_call lane act) (λ call. IsAffordable call × IsCallWithin shape call)

-- the call under way, which may have ended: none where the pass has made no step
abbrev pub under_way_of : Walk → Option Cursor
under_way_of walk = if walk.has_stepped then Some walk.cursor else None

module _ (header : Header) (base : State) (pressure normal : ZoneSize → ℕ → ℕ → Type 0) (lane : Lane) (p : ℕ)
    (acts : List Act) where
  -- so many of these acts have begun, the last of them with the call of this cursor; where there is none they are made.
  -- `mine` are the pass's own events
  abbrev pub StandsBy : ℕ → Option Cursor → History → Type 0
  StandsBy begun None mine = MakesInRow (PageSteps header base pressure normal lane p) p (take begun acts) [] mine
  StandsBy begun (Some cursor) mine = (made : List Act) × (next : Act) × (take begun acts ≡ made ++ next ∷ [])
      × IsUnderWay header base pressure normal lane p made next
      (cursor_at header base p pressure normal mine cursor) mine

  -- the walk stands where pass p does after a history
  abbrev pub StandsAt : Walk → History → Type 0
  StandsAt walk h = StandsBy walk.begun (under_way_of walk) (own h p)

  -- the call is the last that has begun, and its step is due
  pub record IsDueAt (call : DueCall) (mine : History) : Type 0 where
    pub stands : StandsBy call.begun (Some call.cursor) mine
    pub due : IsDue (cursor_at header base p pressure normal mine call.cursor) call.due

-- the lane of a CPU makes no call that asks rules
abbrev pub IsOfLane : Lane → Cursor → Type 0
IsOfLane (Cpu c) cursor = may_ask cursor ≡ false
IsOfLane Control cursor = Unit {0}

-- so many acts there are, and the call is one of the lane, on a counter, a zone or a node of the layout
pub record IsWalkWithin (shape : Shape) (lane : Lane) (acts : List Act) (walk : Walk) : Type 0 where
  pub begun : walk.begun ≤ length acts
  pub under_way : IfSome (under_way_of walk) (λ cursor. IsOfLane lane cursor × IsWithin shape cursor)

-- the same of a call at which no rule is asked
pub record IsDueWithin (shape : Shape) (lane : Lane) (acts : List Act) (call : DueCall) : Type 0 where
  pub begun : call.begun ≤ length acts
  pub of_lane : IsOfLane lane call.cursor
  pub within : IsWithin shape call.cursor
  pub ready : IsReady call.cursor
