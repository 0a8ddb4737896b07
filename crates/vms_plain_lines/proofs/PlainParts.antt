-- A line on plain tables goes on by its part in one table, where it makes no step in the others.
use Rattle.std.proofs.Common.{ℕ, true, ◌≡◌, List, [], Option}
use Rattle.std.proofs.lemmas.List.Elements.{All-nil}
use Rattle.vms_world.specs.Common.{Header, ZoneSize, Event, after, Machine, State, pages, EventState, events, PcpuState}
use Rattle.vms_world.specs.Common.{percpu, HasWon, Act, Item, Lane, EventSteps, PageSteps, PcpuSteps, is_among}
use Rattle.vms_world.specs.Common.{TableHistories, event_facts, page_facts, pcpu_facts}
use Rattle.vms_world.specs.declared.worlds.World.{World}
use Rattle.vms_file_order.specs.Common.{GoesOnWithLine, StandsOpen, PassSteps, pass_of, FindsLockFree, MeetsNobody}
use Rattle.vms_file_order.specs.Common.{event_makes, event_passes, page_passes, pcpu_makes, pcpu_passes}
use Rattle.vms_file_order.proofs.Common.{HasPass-opening}
use Rattle.vms_answers.specs.declared.answers.Answer.{Answer}
use Rattle.vms_answers.specs.Common.{Tell, on_counters, on_events, on_pages}
use Rattle.vms_plain_pcpu.specs.Common.{under_free_locks}
use Rattle.vms_plain_control.specs.Common.{KnowsPeaks}
use Rattle.vms_plain_lines.specs.Common.{GoesOnTelling, PlainStates, StandsInPhase}

-- the part of a line that makes no step in a table: unlike a lemma's, its steps are known
abbrev no_steps : {F K S : Type 0} (machine : Machine F K S) (passes : PassSteps K machine.role)
    (makes : Lane → ℕ → Act → List (Event K) → List K → Type 0) (IsAlone : K → Type 0) (facts : F) (lanes : List Lane)
    (item : Item) (h : List (Event K)) (now : S) → is_among item.lane lanes ≡ true
    → StandsOpen machine passes facts lanes h now → makes item.lane (pass_of lanes item.lane) item.act h []
    → GoesOnWithLine machine makes IsAlone facts lanes item h now
no_steps machine passes makes IsAlone facts lanes item h now among stands making = record {
  steps = [];
  making = making;
  alone = All-nil IsAlone;
  goes_on = record { legal = stands.legal; state = stands.state };
  may_end = stands.may_end (pass_of lanes item.lane)
      (HasPass-opening passes lanes h item.lane stands.main among).other_than_main;
}

module _ (pressure normal : ZoneSize → ℕ → ℕ → Type 0) (header : Header) (w : World) (lanes : List Lane)
    (items : List Item) (hs : TableHistories) (now : PlainStates) (item : Item)
    (stands : StandsInPhase header pressure normal w lanes items hs now) (among : is_among item.lane lanes ≡ true) where
  abbrev of_pages : PageSteps header w.pages pressure normal item.lane (pass_of lanes item.lane) item.act hs.pages []
      → GoesOnWithLine pages (PageSteps header w.pages pressure normal) HasWon (page_facts header w) lanes item hs.pages
      now.pages
  of_pages none = no_steps pages page_passes (PageSteps header w.pages pressure normal) HasWon (page_facts header w)
      lanes item hs.pages now.pages among stands.opened.pages none

  abbrev of_events : EventSteps (event_facts header w) item.lane item.act []
      → GoesOnWithLine events (event_makes (event_facts header w)) MeetsNobody (event_facts header w) lanes item
      hs.events now.events
  of_events none = no_steps events event_passes (event_makes (event_facts header w)) MeetsNobody (event_facts header w)
      lanes item hs.events now.events among stands.opened.events none

  abbrev of_counters : PcpuSteps (pcpu_facts header w) item.lane item.act []
      → GoesOnWithLine percpu (pcpu_makes (pcpu_facts header w)) FindsLockFree (pcpu_facts header w) lanes item
      hs.counters (under_free_locks now.counters)
  of_counters none = no_steps percpu pcpu_passes (pcpu_makes (pcpu_facts header w)) FindsLockFree
      (pcpu_facts header w) lanes item hs.counters (under_free_locks now.counters) among stands.opened.counters none

  -- a line on the page counters alone
  pub GoesOnTelling-pages : (next : State) (known : List ℕ) (answer : Option Answer)
      → EventSteps (event_facts header w) item.lane item.act []
      → PcpuSteps (pcpu_facts header w) item.lane item.act []
      → (part : GoesOnWithLine pages (PageSteps header w.pages pressure normal) HasWon (page_facts header w) lanes item
      hs.pages next) → KnowsPeaks (page_facts header w) (after (pass_of lanes item.lane) part.steps hs.pages) known
      → Tell header w item.lane item.act (on_pages part.steps) answer
      → GoesOnTelling header pressure normal w lanes item hs (record now { pages = next; peaks = known }) answer
  GoesOnTelling-pages next known answer no_events no_counters part knows told = record {
    line = record { pages = part; events = of_events no_events; counters = of_counters no_counters };
    peaks = knows;
    opening = stands.opening;
    tells = told;
  }

  -- a line on the event counters alone
  pub GoesOnTelling-events : (next : EventState) (answer : Option Answer)
      → PageSteps header w.pages pressure normal item.lane (pass_of lanes item.lane) item.act hs.pages []
      → PcpuSteps (pcpu_facts header w) item.lane item.act []
      → (part : GoesOnWithLine events (event_makes (event_facts header w)) MeetsNobody (event_facts header w) lanes item
      hs.events next)
      → Tell header w item.lane item.act (on_events part.steps) answer
      → GoesOnTelling header pressure normal w lanes item hs (record now { events = next }) answer
  GoesOnTelling-events next answer no_pages no_counters part told = record {
    line = record { pages = of_pages no_pages; events = part; counters = of_counters no_counters };
    peaks = stands.peaks;
    opening = stands.opening;
    tells = told;
  }

  -- a line on the percpu counters alone
  pub GoesOnTelling-counters : (next : PcpuState) (answer : Option Answer)
      → PageSteps header w.pages pressure normal item.lane (pass_of lanes item.lane) item.act hs.pages []
      → EventSteps (event_facts header w) item.lane item.act []
      → (part : GoesOnWithLine percpu (pcpu_makes (pcpu_facts header w)) FindsLockFree (pcpu_facts header w) lanes item
      hs.counters (under_free_locks next))
      → Tell header w item.lane item.act (on_counters part.steps) answer
      → GoesOnTelling header pressure normal w lanes item hs (record now { counters = next }) answer
  GoesOnTelling-counters next answer no_pages no_events part told = record {
    line = record { pages = of_pages no_pages; events = of_events no_events; counters = part };
    peaks = stands.peaks;
    opening = stands.opening;
    tells = told;
  }
