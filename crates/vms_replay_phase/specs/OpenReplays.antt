-- How far a phase has come that is replayed line by line.
use Rattle.std.specs.Prelude.{◌≡◌, ℕ, List, [], ◌++◌, Option}
use Rattle.vms_world.specs.Common.{Header, ZoneSize, Item, Lane, TableHistories, page_facts}
use Rattle.vms_answers.specs.declared.answers.Answer.{Answer}
use Rattle.vms_answers.specs.Common.{Answered, NumberedAnswer, with_answer}
use Rattle.vms_plain_lines.specs.Common.{PlainStates, StandsInPhase, SetByLines}
use Rattle.vms_plain_control.specs.Common.{KnowsPeaks}
use Rattle.vms_world.specs.declared.worlds.Volumes.{Volumes}
use Rattle.vms_world.specs.declared.worlds.World.{World}
use Rattle.vms_replay_phase.specs.CountedVolumes.{CountVolumes}
use Rattle.vms_replay_phase.specs.Lines.{MakesLine}
use Rattle.vms_replay_phase.specs.Spending.{spent_by_line}

-- the plain tables, and the volumes of the CPUs
pub record ReplayState : Type 0 where
  pub tables : PlainStates
  pub volumes : Volumes

-- a replay from this world begins with what stands in it, and knows the peaks
pub record BeginsReplay (header : Header) (w : World) (now : ReplayState) : Type 0 where
  pub peaks : KnowsPeaks (page_facts header w) [] now.tables.peaks
  pub tables : now.tables ≡ record {
    pages = w.pages;
    events = w.events;
    counters = w.counters;
    peaks = now.tables.peaks;
    opening = w.pages.cpu;
  }
  pub volumes : now.volumes ≡ w.volumes

-- these lines have come to this replay in histories in which they follow one another: it has the tables that the
-- histories lead to, which tell these answers, and the volumes that the lines leave
pub record HasReplayed (header : Header) (pressure normal : ZoneSize → ℕ → ℕ → Type 0) (w : World) (lanes : List Lane)
    (items : List Item) (told : List NumberedAnswer) (now : ReplayState) : Type 0 where
  pub histories : TableHistories
  pub stands : StandsInPhase header pressure normal w lanes items histories now.tables
  pub sets : SetByLines header.layout items now.tables.pages
  pub volumes : CountVolumes header w items now.volumes
  pub answered : Answered header w lanes items histories told

-- a replay goes on with a line: its act is made, with this answer, and what it changes is added to the volumes
pub record ReplaysLine (header : Header) (pressure normal : ZoneSize → ℕ → ℕ → Type 0) (item : Item)
    (answer : Option Answer) (now next : ReplayState) : Type 0 where
  pub makes : MakesLine header pressure normal item.lane item.act now.tables next.tables answer
  pub volumes : next.volumes ≡ spent_by_line header item.lane item.act now.volumes

-- and its answer, if it has one, is handed on after those of the lines before it
pub record AnswersLine {A : Type 0} (header : Header) (pressure normal : ZoneSize → ℕ → ℕ → Type 0) (item : Item)
    (now next : ReplayState) (Takes : A → List NumberedAnswer → A → Type 0) (taker taker' : A) : Type 0 where
  pub answer : Option Answer
  pub line : ReplaysLine header pressure normal item answer now next
  pub takes : (first : A) (before : List NumberedAnswer) → Takes first before taker
      → Takes first (before ++ with_answer item.number answer []) taker'
