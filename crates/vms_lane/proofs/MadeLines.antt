-- A line of a CPU's lane, by the table that its act concerns.
use Rattle.std.proofs.Common.{◌≡◌, ℕ, List, Option, Some, None, refl, sym, ap, ◌∙◌, subst}
use Rattle.vms_world.specs.Common.{Header, CpuId, ZoneSize, Shape, own, Machine, Facts, pages, EventCall, EventFacts}
use Rattle.vms_world.specs.Common.{events, PcpuCall, percpu, spent_on_counter, spent_on_event, spent_on_pcpu, Act, Cpu}
use Rattle.vms_world.specs.Common.{EventSteps, PcpuSteps, event_call, pcpu_call, event_facts, pcpu_facts}
use Rattle.vms_core.specs.Own.{CarriesNothing}
use Rattle.vms_event.specs.CpuPasses as event_passes
use Rattle.vms_pcpu.specs.IdlePasses as pcpu_passes
use Rattle.vms_seats.specs.Common.{IsFrom, Pass, Shared, Made}
use Rattle.vms_seats.proofs.Common.{calls-none}
use Rattle.vms_tables.specs.declared.passes.CpuPasses.{CpuPasses}
use Rattle.vms_tables.specs.declared.tables.Tables.{Tables}
use Rattle.vms_tables.specs.Common.{AreLive, passes_of, AreTables, world_of}
use Rattle.vms_words.specs.Common.{OwningPass}
use Rattle.vms_world.proofs.Common.{call-no_events, call-no_pages, events-no_burial, events-no_pages}
use Rattle.vms_answers.specs.declared.answers.Answer.{Answer}
use Rattle.vms_answers.specs.Common.{on_counters, on_events, on_pages}
use Rattle.vms_lane.specs.Common.{MakeAct, AreReady, HasGrown, HaveSpent, spending_of, MakesOnCounters, MakesOnEvents}
use Rattle.vms_lane.specs.Common.{MakesOnPages}
use Rattle.vms_lane.proofs.ActKinds.{call-unspent, events-no_call, events-unspent, no_call-steps, no_call-unspent}
use Rattle.vms_lane.proofs.ActKinds.{no_events-steps, no_events-unspent}
use Rattle.vms_lane.proofs.GrownVolumes.{grown-none}

-- a pass that made steps is still one of its table
pub of-made : {F K S : Type 0} (machine : Machine F K S) (words : Shared F) (new old : Pass F K) (steps : List K)
    → Made machine new old steps → IsFrom old words → IsFrom new words
of-made machine words new old steps made of =
    record { table = made.table ∙ of.table; facts = made.facts ∙ of.facts }

-- the line that a CPU's passes may make, and its parts
module _ (header : Header) (pressure normal : ZoneSize → ℕ → ℕ → Type 0) (tables : Tables)
    (are : AreTables header tables) (c : CpuId) (a : Act) (old : CpuPasses) (answer : Option Answer) where
  abbrev Makes : CpuPasses → Type 0
  Makes new = MakeAct header pressure normal (world_of tables) (Cpu c) a (passes_of new) (passes_of old) answer

  -- the passes may go on after a line
  pub ready-after : AreReady tables c old → (new : CpuPasses) → Makes new → HaveSpent (spending_of a) new old
      → CarriesNothing tables.pages.facts.layout (own new.page.pass.seen new.page.pass.number)
      → AreReady tables c new
  ready-after ready new makes spends nothing = record {
    of = record {
      pages = of-made pages tables.pages new.page.pass old.page.pass makes.steps.pages makes.pages
          ready.of.pages;
      events = of-made events tables.events new.event.pass old.event.pass makes.steps.events makes.events
          ready.of.events;
      counters = of-made percpu tables.counters new.pcpu.pass old.pcpu.pass makes.steps.counters makes.counters
          ready.of.counters;
    };
    owner = record {
      pages = makes.pages.cpu ∙ ready.owner.pages;
      events = makes.events.cpu ∙ ready.owner.events;
      counters = makes.counters.cpu ∙ ready.owner.counters;
    };
    volumes = record {
      page = spends.page.one_each ∙ ready.volumes.page;
      event = spends.event.one_each ∙ ready.volumes.event;
      pcpu = spends.pcpu.one_each ∙ ready.volumes.pcpu;
    };
    nothing = nothing;
  }

  module _ (live : AreLive (passes_of old)) where
    -- an act that makes a call on the event counters
    module _ (call : EventCall) (on : event_call (Cpu c) a ≡ Some call) (pass : event_passes.CpuPass) where
      pub event-made : MakesOnEvents header tables.events.facts (Cpu c) a pass.pass old.event.pass answer
          → Makes (record old { event = pass })
      event-made act = record {
        steps = on_events act.steps;
        page_act = events-no_pages (Cpu c) a call on (events-no_burial c a call on) header (world_of tables).pages
            pressure normal old.page.pass.number old.page.pass.seen;
        event_act = subst (λ (facts : EventFacts). EventSteps facts (Cpu c) a act.steps) are.events act.is_act;
        pcpu_act = no_call-steps (pcpu_facts header (world_of tables)) c a (events-no_call c a call on);
        pages = calls-none pages old.page.pass live.pages;
        events = act.made;
        counters = calls-none percpu old.pcpu.pass live.counters;
        tells = act.tells (world_of tables) are.events;
      }

      pub event-spent : HasGrown (λ e. spent_on_event e a) pass.volume old.event.volume
          → HaveSpent (spending_of a) (record old { event = pass }) old
      event-spent grown = record {
        page = grown-none (λ k. spent_on_counter k a) (events-unspent c a call on) old.page.volume old.page.volume refl;
        event = grown;
        pcpu = grown-none (λ j. spent_on_pcpu j a) (no_call-unspent c a (events-no_call c a call on))
            old.pcpu.volume old.pcpu.volume refl;
      }

    -- an act on the percpu counters
    module _ (no_events : event_call (Cpu c) a ≡ None) (call : PcpuCall) (is : pcpu_call (Cpu c) a ≡ Some call)
        (pass : pcpu_passes.CpuPass) where
      pub pcpu-made : MakesOnCounters header tables.counters.facts (Cpu c) a pass.pass old.pcpu.pass answer
          → Makes (record old { pcpu = pass })
      pcpu-made act = record {
        steps = on_counters act.steps;
        page_act = call-no_pages header (world_of tables).pages pressure normal c old.page.pass.number
            old.page.pass.seen call a is;
        event_act = call-no_events (event_facts header (world_of tables)) c call a is;
        pcpu_act = subst (λ facts. PcpuSteps facts (Cpu c) a act.steps) are.counters act.is_act;
        pages = calls-none pages old.page.pass live.pages;
        events = calls-none events old.event.pass live.events;
        counters = act.made;
        tells = act.tells (world_of tables) are.counters;
      }

      pub pcpu-spent : HasGrown (λ j. spent_on_pcpu j a) pass.volume old.pcpu.volume
          → HaveSpent (spending_of a) (record old { pcpu = pass }) old
      pcpu-spent grown = record {
        page = grown-none (λ k. spent_on_counter k a) (call-unspent c call a is) old.page.volume old.page.volume refl;
        event = grown-none (λ e. spent_on_event e a) (no_events-unspent c a no_events) old.event.volume
            old.event.volume refl;
        pcpu = grown;
      }

    -- an act on the page counters
    module _ (no_events : event_call (Cpu c) a ≡ None) (no_call : pcpu_call (Cpu c) a ≡ None) (pass : OwningPass) where
      pub page-made : MakesOnPages header pressure normal (world_of tables).pages (Cpu c) a pass.pass old.page.pass
          answer → Makes (record old { page = pass })
      page-made act = record {
        steps = on_pages act.steps;
        page_act = act.is_act;
        event_act = no_events-steps (event_facts header (world_of tables)) (Cpu c) a no_events;
        pcpu_act = no_call-steps (pcpu_facts header (world_of tables)) c a no_call;
        pages = act.made;
        events = calls-none events old.event.pass live.events;
        counters = calls-none percpu old.pcpu.pass live.counters;
        tells = act.tells (world_of tables);
      }

      pub page-spent : HasGrown (λ k. spent_on_counter k a) pass.volume old.page.volume
          → HaveSpent (spending_of a) (record old { page = pass }) old
      page-spent grown = record {
        page = grown;
        event = grown-none (λ e. spent_on_event e a) (no_events-unspent c a no_events) old.event.volume
            old.event.volume refl;
        pcpu = grown-none (λ j. spent_on_pcpu j a) (no_call-unspent c a no_call) old.pcpu.volume
            old.pcpu.volume refl;
      }

      pub page-nothing : MakesOnPages header pressure normal (world_of tables).pages (Cpu c) a pass.pass
          old.page.pass answer → CarriesNothing tables.pages.facts.layout (own pass.pass.seen pass.pass.number)
      page-nothing act = subst (λ (shape : Shape). CarriesNothing shape (own pass.pass.seen pass.pass.number))
          (sym (ap (λ (f : Facts). f.layout) are.pages)) act.nothing
