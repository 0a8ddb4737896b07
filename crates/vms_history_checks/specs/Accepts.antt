-- What a check keeps of the lines of a written history so far.
use Rattle.std.specs.Prelude.{◌≡◌, ◌≢◌, ℕ, ◌≤◌, ◌+◌, List, [], ◌∷◌, length, drop, map, Option, Some, None, sum_by}
use Rattle.vms_world.specs.Common.{Segment, Act, Fits, Header, Item, Lane, Start, State, ZoneSize, first_start, line_of}
use Rattle.vms_world.specs.Common.{start_at_end}
use Rattle.vms_core.specs.Pages.{History}
use Rattle.vms_written.specs.Common.{IsWrittenPhase}
use Rattle.vms_written_lines.specs.declared.lines.WrittenLine.{WrittenLine}
use Rattle.vms_written_lines.specs.declared.lines.WrittenLine.TheVariants.{Blank, Event, Phase as PhaseLine}
use Rattle.vms_written_states.specs.PageStarts.{IsPageStart}
use Rattle.vms_phase_checks.specs.declared.checks.PhaseCheck.{PhaseCheck}
use Rattle.vms_phase_checks.specs.declared.faults.EventCause.{EventCause}
use Rattle.vms_phase_checks.specs.declared.faults.EventCause.TheVariants.{BadEvent, Incomplete, NotInScript}
use Rattle.vms_phase_checks.specs.Common.{Checks, IsEventFault}
use Rattle.vms_history_checks.specs.Bounds.{MayStandInTurn, bounds_of, scripts_of}
use Rattle.vms_history_checks.specs.Leads.{Begins}
use Rattle.vms_history_checks.specs.declared.checks.HistoryCheck.{HistoryCheck}

-- how many events there are in these lists
abbrev pub events_in : List History → ℕ
events_in hs = sum_by (λ h. length h) hs

module _ {W : Type 0} (Stands : Header → State → Lane → ℕ → List Act → History → W → Type 0)
    (pressure normal : ZoneSize → ℕ → ℕ → Type 0) (header : Header) (segments : List Segment) where
  -- the phase that has begun last, and what is left after it
  pub record IsWithin (older : List History) (h : History) (check : PhaseCheck W) (left : List Segment) : Type 0 where
    pub s : State
    pub items : List Item
    pub begins : Begins header pressure normal segments older s items left
    pub checks : Checks Stands pressure normal header s items h check
    pub start : Start
    pub begun : IsPageStart header start s
    pub fits : Fits header start items
    pub stands : MayStandInTurn header (start_at_end start (map line_of items)) left

  -- no phase has begun, or these are the events of the last one and those of the phases before it
  abbrev pub IsAt : List History → Option (PhaseCheck W) → List Segment → Type 0
  IsAt [] None left = left ≡ segments
  IsAt (h ∷ older) (Some check) left = IsWithin older h check left
  IsAt [] (Some check) left = ⊥
  IsAt (h ∷ older) None left = ⊥

  -- that phase is whole, if one has begun
  abbrev pub IsWholeAt : (hs : List History) (phase : Option (PhaseCheck W)) (left : List Segment) → IsAt hs phase left
      → Type 0
  IsWholeAt [] None left at = Unit {0}
  IsWholeAt (h ∷ older) (Some check) left at = IsWrittenPhase header pressure normal at.s at.items h
  IsWholeAt [] (Some check) left at = ⊥
  IsWholeAt (h ∷ older) None left at = ⊥

  -- the lists, the newest first, are what a check has accepted
  pub record Accepts (hs : List History) (check : HistoryCheck W) : Type 0 where
    pub all : MayStandInTurn header first_start segments
    pub left : List Segment
    pub at : IsAt hs check.phase left
    pub begun : length hs ≡ check.begun
    pub crossed : check.crossed ≤ length check.bounds.items
    pub bounds : drop check.crossed check.bounds.items ≡ bounds_of check.begun left
    pub all_scripts : check.phases.items ≡ scripts_of segments
    pub few : check.begun ≤ length check.phases.items
    pub scripts : drop check.begun check.phases.items ≡ scripts_of left
    pub events : events_in hs ≡ check.events
    pub lines : check.begun + check.events ≤ check.lines

-- what may follow these lists
module _ (pressure normal : ZoneSize → ℕ → ℕ → Type 0) (header : Header) (segments : List Segment) where
  -- why a phase line may not, after a phase of these lines
  abbrev pub IsPhaseFault : State → List Item → List Segment → History → EventCause → Type 0
  IsPhaseFault s items left h NotInScript = scripts_of left ≡ []
  IsPhaseFault s items left h Incomplete = (scripts_of left ≢ []) × (¬ IsWrittenPhase header pressure normal s items h)
  IsPhaseFault s items left h _ = ⊥

  -- a phase may begin after these lists: one is left, and the last one is whole
  abbrev pub MayBegin : List History → Type 0
  MayBegin [] = scripts_of segments ≢ []
  MayBegin (h ∷ older) = (s : State) × (items : List Item) × (left : List Segment)
      × Begins header pressure normal segments older s items left × (scripts_of left ≢ [])
      × IsWrittenPhase header pressure normal s items h

  -- why a line that says this may not
  abbrev pub IsLineFault : List History → Option WrittenLine → EventCause → Type 0
  IsLineFault hs None cause = cause ≡ BadEvent
  IsLineFault hs (Some Blank) cause = ⊥
  IsLineFault [] (Some PhaseLine) cause = (cause ≡ NotInScript) × (scripts_of segments ≡ [])
  IsLineFault (h ∷ older) (Some PhaseLine) cause = (s : State) × (items : List Item) × (left : List Segment)
      × Begins header pressure normal segments older s items left × IsPhaseFault s items left h cause
  IsLineFault [] (Some (Event caller wide)) cause = cause ≡ BadEvent
  IsLineFault (h ∷ older) (Some (Event caller wide)) cause = (s : State) × (items : List Item) × (left : List Segment)
      × Begins header pressure normal segments older s items left
      × IsEventFault pressure normal header s items h caller wide cause
