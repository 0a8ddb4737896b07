-- What runs the phases of a trace.
use Rattle.std.specs.Prelude.{◌≡◌, List, All, Result, IfOk}
use Rattle.std.specs.Fn.{Shared}
use denote.Ref.{Bor}
use Rattle.vms_world.specs.Common.{Memory, Header, IsHeader, Fits, Start, Item, left_by}
use Rattle.vms_answers.specs.Common.{NumberedAnswer, answers_of, merged, HasPlace, told_by}
use Rattle.vms_file_order.specs.Common.{IsStartOf}
use Rattle.vms_phase.specs.declared.phases.PhaseDone.{PhaseDone}
use Rattle.vms_phase.specs.Common.{HaveFactsOf, histories_of}
use Rattle.vms_replay.specs.Common.{PastPhase, phase_facts}
use Rattle.vms_world.specs.declared.worlds.World.{World}
use Rattle.vms_run.specs.Threads.{makes_on_threads}

-- the predicates of closures that are called at a header, a world and a script, and return a phase unless no memory is
-- found
abbrev pub RunnerPredicates : Type 0 → Type 1
RunnerPredicates F = Shared F (Bor Header × (World × (Bor (List Item) × Unit {0}))) (Result PhaseDone Memory)

-- a closure may be called with these lines of a phase from this world
pub record AcceptsPhase {F : Type 0} (g : RunnerPredicates F) (f : F) (header : Header) (w : World) (items : List Item)
    : Type 0 where
  pub callable : (shown : Bor Header) (script : Bor (List Item)) → shown.now ≡ header → script.now ≡ items
      → g.pre f (shown, (w, (script, tt)))

-- what a closure may return then
pub record ReturnsPhase {F : Type 0} (g : RunnerPredicates F) (f : F) (header : Header) (w : World) (items : List Item)
    (result : Result PhaseDone Memory) : Type 0 where
  pub shown : Bor Header
  pub script : Bor (List Item)
  pub shows : shown.now ≡ header
  pub lines : script.now ≡ items
  pub returned : g.post f (shown, (w, (script, tt))) result

-- a phase of these lines may be run from this world
abbrev pub MayRun : Header → World → List Item → Type 0
MayRun header w items = (start : Start) × IsStartOf header start w × Fits header start items

-- a phase of these lines was run from a world, of which its tables were told: its histories make the lines, and they
-- tell the world that it left and what the lines answered. Each line's lane has its place among the answers
pub record IsRun (header : Header) (w : World) (items : List Item) (done : PhaseDone) : Type 0 where
  pub makes : makes_on_threads header w items (histories_of done.histories)
  pub facts : HaveFactsOf header w done.histories
  pub world : done.world ≡ left_by header w items (histories_of done.histories)
  pub answers : answers_of header w items (histories_of done.histories) ≡ merged items (told_by done.lanes.items)
  pub places : All (λ item. HasPlace done.lanes.items item.lane) items

-- a runner runs every phase that may be run, unless it finds no memory
pub record RunsPhases (accepts : Header → World → List Item → Type 0)
    (returns : Header → World → List Item → Result PhaseDone Memory → Type 0) : Type 0 where
  pub callable : (header : Header) (w : World) (items : List Item) → IsHeader header → MayRun header w items
      → accepts header w items
  pub runs : (header : Header) (w : World) (items : List Item) (result : Result PhaseDone Memory) → IsHeader header
      → MayRun header w items → returns header w items result → IfOk result (IsRun header w items)

-- a phase of these lines was run from a world, of which its tables were told, and leaves another; what its lines
-- answered was told
pub record IsOneRun (header : Header) (w : World) (items : List Item) (Told : List NumberedAnswer → Type 0)
    (left : World) (phase : PastPhase) : Type 0 where
  pub from : phase.world ≡ w
  pub of : phase.items ≡ items
  pub told : phase.facts ≡ phase_facts header w
  pub makes : makes_on_threads header w items phase.histories
  pub world : left ≡ left_by header w items phase.histories
  pub answers : Told (answers_of header w items phase.histories)
