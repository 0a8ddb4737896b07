-- A phase of lines, and the way through the segments of a text.
use Rattle.std.specs.Prelude.{◌≡◌, ℕ, List, [], ◌∷◌}
use Rattle.vms_calls.specs.Common.{Header, ZoneSize}
use Rattle.vms_core.specs.Steps as pages
use Rattle.vms_event_core.specs.Steps as events
use Rattle.vms_pcpu_core.specs.Steps as percpu
use Rattle.vms_text.specs.declared.acts.Item.{Item}
use Rattle.vms_script.specs.Common.{Segment, Phase, Between}
use Rattle.vms_world.specs.declared.worlds.World.{World}
use Rattle.vms_world.specs.Acts.{PageSteps, EventSteps, PcpuSteps}
use Rattle.vms_world.specs.Boundaries.{Crosses, MayCross}
use Rattle.vms_world.specs.Lanes.{HasLanes, MakesLines, lanes_of}
use Rattle.vms_world.specs.LineVolumes.{FitVolumes}
use Rattle.vms_world.specs.Phases.{AreComplete, TableHistories, LeavesNothing, SpendTheirLines, left_by}
use Rattle.vms_world.specs.Refreshes.{AreAnswers}
use Rattle.vms_world.specs.FirstWorlds.{started}
use Rattle.vms_world.specs.Worlds.{event_facts, pcpu_facts}

-- these histories are a phase of these lines, which leads from one world to another: in each table a pass begins for
-- each lane with lines and no other, and makes the acts of its lines in order, as far as they concern the table
pub record IsWorldPhase (header : Header) (pressure normal : ZoneSize → ℕ → ℕ → Type 0) (w : World) (items : List Item)
    (hs : TableHistories) (next : World) : Type 0 where
  pub complete : AreComplete header w hs
  pub page_lanes : HasLanes pages.role (lanes_of header.layout items) hs.pages
  pub event_lanes : HasLanes events.role (lanes_of header.layout items) hs.events
  pub pcpu_lanes : HasLanes percpu.role (lanes_of header.layout items) hs.counters
  pub page_lines : MakesLines (PageSteps header w.pages pressure normal) (lanes_of header.layout items) items hs.pages
  pub event_lines : MakesLines (λ lane p act h. EventSteps (event_facts header w) lane act)
      (lanes_of header.layout items) items hs.events
  pub pcpu_lines : MakesLines (λ lane p act h. PcpuSteps (pcpu_facts header w) lane act)
      (lanes_of header.layout items) items hs.counters
  pub spent : SpendTheirLines header items hs
  pub volumes : FitVolumes header w items
  pub buried : LeavesNothing header next
  pub left : next ≡ left_by header w items hs

-- the segments lead from one world to another, each from where the one before it ended, the phases with these histories
abbrev pub SegmentsLead : Header → (pressure normal : ZoneSize → ℕ → ℕ → Type 0) → List Segment →
    List TableHistories → World
    → World → Type 0
SegmentsLead header pressure normal [] [] w last = w ≡ last
SegmentsLead header pressure normal (Phase items ∷ segments) (hs ∷ more) w last = (next : World)
    × IsWorldPhase header pressure normal w items hs next × SegmentsLead header pressure normal segments more next last
SegmentsLead header pressure normal (Between number b ∷ segments) hss w last = (next : World)
    × MayCross header.layout w.pages b × Crosses header normal b w next
    × SegmentsLead header pressure normal segments hss next last
SegmentsLead header pressure normal _ _ w last = ⊥

-- a run of these segments, from its start on
pub record IsWorldRun (header : Header) (pressure normal : ZoneSize → ℕ → ℕ → Type 0) (segments : List Segment)
    (hss : List TableHistories) (last : World) : Type 0 where
  pub zones : List ℕ
  pub answers : AreAnswers header normal header.layout.cpus zones
  pub leads : SegmentsLead header pressure normal segments hss (started header zones) last
