-- The plain tables, where they stand in an open phase, and how a line that is made on them goes on there.
use Rattle.std.specs.Prelude.{◌≡◌, ℕ, true, List, Option}
use Rattle.vms_world.specs.Common.{Header, CpuState, ZoneSize, State, EventState, PcpuState, Item, Lane, is_among}
use Rattle.vms_world.specs.Common.{TableHistories, page_facts}
use Rattle.vms_world.specs.declared.worlds.World.{World}
use Rattle.vms_file_order.specs.Common.{StandOnce, GoesOnInTables, IsOpenPhase, TableStates, histories_with_line}
use Rattle.vms_answers.specs.declared.answers.Answer.{Answer}
use Rattle.vms_answers.specs.Common.{Tell, steps_of_line}
use Rattle.vms_plain_pcpu.specs.Common.{under_free_locks}
use Rattle.vms_plain_control.specs.Common.{KnowsPeaks}

-- the counters of the three tables, the largest thresholds that CPUs may still be using, and the states of the CPUs
-- with which the phase began
pub record PlainStates : Type 0 where
  pub pages : State
  pub events : EventState
  pub counters : PcpuState
  pub peaks : List ℕ
  pub opening : List CpuState

-- a state of each table: the locks of the percpu counters are free
abbrev pub in_tables : PlainStates → TableStates
in_tables states = record {
  pages = states.pages;
  events = states.events;
  counters = under_free_locks states.counters;
}

-- lines have come to these plain tables in an open phase, of whose lanes each stands once: the peaks are those of the
-- history, and the phase began with CPUs in these states
pub record StandsInPhase (header : Header) (pressure normal : ZoneSize → ℕ → ℕ → Type 0) (w : World) (lanes : List Lane)
    (items : List Item) (hs : TableHistories) (now : PlainStates) : Type 0 where
  pub opened : IsOpenPhase header pressure normal w lanes items hs (in_tables now)
  pub once : StandOnce lanes
  pub peaks : KnowsPeaks (page_facts header w) hs.pages now.peaks
  pub opening : now.opening ≡ w.pages.cpu

-- a line goes on from these histories to these plain tables, which know the peaks after it, and its steps tell this
-- answer, or none
pub record GoesOnTelling (header : Header) (pressure normal : ZoneSize → ℕ → ℕ → Type 0) (w : World)
    (lanes : List Lane) (item : Item) (hs : TableHistories) (next : PlainStates) (answer : Option Answer) : Type 0 where
  pub line : GoesOnInTables header pressure normal w lanes item hs (in_tables next)
  pub peaks : KnowsPeaks (page_facts header w)
      (histories_with_line header pressure normal w lanes item hs (in_tables next) line).pages next.peaks
  pub opening : next.opening ≡ w.pages.cpu
  pub tells : Tell header w item.lane item.act
      (steps_of_line header pressure normal w lanes item hs (in_tables next) line) answer

-- wherever this line stands next in an open phase with these plain tables, after lines that leave room for it, it goes
-- on to those and tells this answer
abbrev pub GoesOnIf : Header → (pressure normal : ZoneSize → ℕ → ℕ → Type 0) → Item → (List Item → Type 0) → PlainStates
    → PlainStates → Option Answer → Type 0
GoesOnIf header pressure normal item LeaveRoom now next answer = (w : World) (lanes : List Lane) (items : List Item)
    (hs : TableHistories) → StandsInPhase header pressure normal w lanes items hs now →
    is_among item.lane lanes ≡ true →
    LeaveRoom items → GoesOnTelling header pressure normal w lanes item hs next answer

-- the same of a line that needs no room
abbrev pub GoesOnAlways : Header → (pressure normal : ZoneSize → ℕ → ℕ → Type 0) → Item → PlainStates → PlainStates
    → Option Answer → Type 0
GoesOnAlways header pressure normal item now next answer =
    GoesOnIf header pressure normal item (λ items. Unit {0}) now next answer
