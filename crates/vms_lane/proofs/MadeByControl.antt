-- A line of the control lane, by the table that its act concerns.
use Rattle.std.proofs.Common.{◌≡◌, ◌≢◌, ℕ, List, Option, Some, None, sym, ap, subst}
use Rattle.vms_world.specs.Common.{Header, CpuId, ZoneSize, Shape, own, HasMade, Buries, Facts, Step, pages, EventCall}
use Rattle.vms_world.specs.Common.{EventFacts, EventStep, events, PcpuFacts, percpu, Act, Control, EventSteps}
use Rattle.vms_world.specs.Common.{PcpuSteps, event_call, event_facts, page_facts, pcpu_facts}
use Rattle.vms_burial.specs.declared.passes.ControlPasses.{ControlPasses}
use Rattle.vms_burial.specs.Common.{FoldsDeadEvents, FoldsDeadLocals, passes_of}
use Rattle.vms_control.proofs.Common.{has-made}
use Rattle.vms_core.specs.Own.{CarriesNothing}
use Rattle.vms_calls.specs.declared.page_calls.PageAnswer.TheVariants.{Done as PageDone}
use Rattle.vms_event_core.specs.declared.call_values.EventAnswer.TheVariants.{Done}
use Rattle.vms_pcpu_core.specs.declared.answers.PcpuAnswer.TheVariants.{Done as PcpuDone}
use Rattle.vms_answers.proofs.Common.{TellsEventCall, Tell-burial}
use Rattle.vms_seats.specs.Common.{Pass, Made}
use Rattle.vms_seats.proofs.Common.{calls-none}
use Rattle.vms_tables.specs.declared.tables.Tables.{Tables}
use Rattle.vms_tables.specs.Common.{AreLive, AreFrom, TablePasses, AreTables, world_of}
use Rattle.vms_text.specs.declared.acts.Act.TheVariants.{Dead}
use Rattle.vms_world.proofs.Common.{events-no_counters, events-no_pages}
use Rattle.vms_answers.specs.declared.answers.Answer.{Answer}
use Rattle.vms_answers.specs.Common.{on_events, on_pages}
use Rattle.vms_lane.specs.Common.{MakeAct, AreReadyToControl, MakesOnEvents, MakesOnPages}
use Rattle.vms_lane.proofs.ActKinds.{no_events-steps}
use Rattle.vms_lane.proofs.ControlKinds.{control-no_counters}
use Rattle.vms_lane.proofs.MadeLines.{of-made}

module _ (header : Header) (pressure normal : ZoneSize → ℕ → ℕ → Type 0) (tables : Tables)
    (are : AreTables header tables) (old : ControlPasses) where
  abbrev Makes : Act → TablePasses → Option Answer → Type 0
  Makes a new answer = MakeAct header pressure normal (world_of tables) Control a new (passes_of old) answer

  -- the passes may go on after a line
  pub control-ready : (a : Act) (answer : Option Answer) (new : ControlPasses) → Makes a (passes_of new) answer
      → AreReadyToControl tables old → CarriesNothing tables.pages.facts.layout (own new.page.seen new.page.number)
      → AreReadyToControl tables new
  control-ready a answer new makes ready nothing = record {
    of = record {
      pages = of-made pages tables.pages new.page old.page makes.steps.pages makes.pages ready.of.pages;
      events = of-made events tables.events new.event old.event makes.steps.events makes.events ready.of.events;
      counters = of-made percpu tables.counters new.pcpu old.pcpu makes.steps.counters makes.counters
          ready.of.counters;
    };
    nothing = nothing;
  }

  module _ (live : AreLive (passes_of old)) where
    -- the sum of an event
    pub sum-by_control : (a : Act) (call : EventCall) (answer : Option Answer) (pass : Pass EventFacts EventStep)
        → event_call Control a ≡ Some call → ((c : CpuId) → a ≢ Dead c)
        → MakesOnEvents header tables.events.facts Control a pass old.event answer
        → Makes a (record { pages = old.page; events = pass; counters = old.pcpu }) answer
    sum-by_control a call answer pass on alone act = record {
      steps = on_events act.steps;
      page_act = events-no_pages Control a call on alone header (world_of tables).pages pressure normal
          old.page.number old.page.seen;
      event_act = subst (λ (f : EventFacts). EventSteps f Control a act.steps) are.events act.is_act;
      pcpu_act = events-no_counters Control a call on alone (pcpu_facts header (world_of tables));
      pages = calls-none pages old.page live.pages;
      events = act.made;
      counters = calls-none percpu old.pcpu live.counters;
      tells = act.tells (world_of tables) are.events;
    }

    -- an act on the page counters
    pub pages-by_control : (a : Act) (answer : Option Answer) (pass : Pass Facts Step)
        → MakesOnPages header pressure normal tables.pages.facts.base Control a pass old.page answer
        → event_call Control a ≡ None → Makes a (record { pages = pass; events = old.event; counters = old.pcpu })
        answer
    pages-by_control a answer pass act none = record {
      steps = on_pages act.steps;
      page_act = act.is_act;
      event_act = no_events-steps (event_facts header (world_of tables)) Control a none;
      pcpu_act = control-no_counters (pcpu_facts header (world_of tables)) a none;
      pages = act.made;
      events = calls-none events old.event live.events;
      counters = calls-none percpu old.pcpu live.counters;
      tells = act.tells (world_of tables);
    }

  pub pages-nothing : (a : Act) (answer : Option Answer) (pass : Pass Facts Step)
      → MakesOnPages header pressure normal tables.pages.facts.base Control a pass old.page answer
      → CarriesNothing tables.pages.facts.layout (own pass.seen pass.number)
  pages-nothing a answer pass act = subst (λ (shape : Shape). CarriesNothing shape (own pass.seen pass.number))
      (sym (ap (λ (f : Facts). f.layout) are.pages)) act.nothing

  -- a burial
  pub burial-by_control : TellsEventCall → AreFrom tables (passes_of old) → (c : CpuId) (new : ControlPasses)
      → (steps : List Step) × Buries tables.pages.facts normal c old.page.number old.page.seen steps
      × Made pages new.page old.page steps → FoldsDeadEvents tables.events.facts new.event old.event c
      → FoldsDeadLocals tables.counters.facts new.pcpu old.pcpu c → Makes (Dead c) (passes_of new) None
  burial-by_control reads of c new (steps, buries, made) event pcpu =
      let p = old.page.number in
      let h = old.page.seen in
      let burial : Buries (page_facts header (world_of tables)) normal c p h steps =
      subst (λ (f : Facts). Buries f normal c p h steps) are.pages buries in
      let has : HasMade (page_facts header (world_of tables)) new.page.seen h p steps =
      subst (λ (f : Facts). HasMade f new.page.seen h p steps) are.pages
      (has-made tables.pages new.page old.page steps of.pages made) in
      let folds : EventSteps (event_facts header (world_of tables)) Control (Dead c) event.steps =
      subst (λ (f : EventFacts). EventSteps f Control (Dead c) event.steps) are.events
      (Done, (event.into, event.found, event.is_lowest, event.folds)) in
      record {
        steps = record { pages = steps; events = event.steps; counters = pcpu.steps };
        page_act = (PageDone, burial);
        event_act = folds;
        pcpu_act = subst (λ (f : PcpuFacts). PcpuSteps f Control (Dead c) pcpu.steps) are.counters
            (PcpuDone, pcpu.folds);
        pages = made;
        events = event.made;
        counters = pcpu.made;
        tells = Tell-burial header (world_of tables) pressure normal p new.page.seen h
            (record { pages = steps; events = event.steps; counters = pcpu.steps }) has reads c burial folds pcpu.folds;
      }
