-- A written history of the first segments of a text.
use Rattle.std.specs.Prelude.{ℕ, List, [], ◌∷◌, reverse}
use Rattle.vms_world.specs.Common.{Between, Phase, Segment, AreAnswers, Header, Item, MayCross, State, ZoneSize}
use Rattle.vms_world.specs.Common.{bare_pages, facts_of, refreshed, Start, settled}
use Rattle.vms_text.specs.declared.acts.Boundary.{Boundary}
use Rattle.vms_core.specs.Pages.{History, state_after}
use Rattle.vms_written.specs.Common.{CrossesPages, IsWrittenPhase}
use Rattle.vms_written_states.specs.PageStarts.{IsPageStart}
use Rattle.vms_phase_checks.specs.Common.{KeepsToLines}
use Rattle.vms_history_checks.specs.Bounds.{MayStandInTurn}

module _ (header : Header) (pressure normal : ZoneSize → ℕ → ℕ → Type 0) where
  -- these lists lead from a state to another, and from segments to those that are left: each is a written phase from
  -- where the one before it ended, with the boundary lines between them crossed
  pub data LeadsOn : List Segment → List History → State → List Segment → State → Type 0 where
    here : (segments : List Segment) (s : State) → LeadsOn segments [] s segments s
    phase : (items : List Item) (segments : List Segment) (h : History) (more : List History) (s : State)
        (left : List Segment) (last : State) → IsWrittenPhase header pressure normal s items h
        → LeadsOn segments more (settled (state_after (facts_of header s) h)) left last
        → LeadsOn (Phase items ∷ segments) (h ∷ more) s left last
    between : (number : ℕ) (b : Boundary) (segments : List Segment) (hs : List History) (s next : State)
        (left : List Segment) (last : State) → MayCross header.layout s b → CrossesPages header normal b s next
        → LeadsOn segments hs next left last → LeadsOn (Between number b ∷ segments) hs s left last

  -- these lists, the newest first, lead from the page counters that a run begins with to these ones, from which the
  -- segments that are left may follow
  pub record HasLed (segments : List Segment) (hs : List History) (left : List Segment) (s : State) : Type 0 where
    pub zones : List ℕ
    pub answers : AreAnswers header normal header.layout.cpus zones
    pub leads : LeadsOn segments (reverse hs) (refreshed header zones (bare_pages header)) left s
    pub start : Start
    pub begun : IsPageStart header start s
    pub stands : MayStandInTurn header start left

  -- after these lists, the newest first, a phase of these lines begins with these page counters, and these segments
  -- follow it
  pub record Begins (segments : List Segment) (older : List History) (s : State) (items : List Item)
      (left : List Segment) : Type 0 where
    pub zones : List ℕ
    pub answers : AreAnswers header normal header.layout.cpus zones
    pub leads : LeadsOn segments (reverse older) (refreshed header zones (bare_pages header)) (Phase items ∷ left) s

  -- these lists, the newest first, begin a written history of these segments: all but the newest are whole phases, and
  -- the newest keeps to its lines
  abbrev pub BeginsHistory : List Segment → List History → Type 0
  BeginsHistory segments [] = Unit {0}
  BeginsHistory segments (h ∷ older) = (s : State) × (items : List Item) × (left : List Segment)
      × Begins segments older s items left × KeepsToLines header pressure normal s items h
