-- What open counters keep in the three tables together, when a handle is begun or ended, and when they are opened or
-- closed.
use Rattle.std.proofs.Common.{◌≡◌, ℕ, ◌<◌, Bool, true, false, List, [], length, get_or, set, replicate, Option, Some}
use Rattle.std.proofs.Common.{None, All, IsSome, ap, sym, ◌∙◌, subst, arith, length-set}
use Rattle.std.proofs.lemmas.List.{length-replicate, get_or-replicate}
use Rattle.vms_base.specs.declared.kinds.CpuState.TheVariants.{Online}
use Rattle.vms_world.specs.Common.{CpuId, CpuVolumes, EventFacts, Facts, Header, IsHeader, IsWorldOf, MayOwnCpu}
use Rattle.vms_world.specs.Common.{EventState, PcpuFacts, PcpuState, Shape, State, counter_count, cpu_at, event_count}
use Rattle.vms_world.specs.Common.{event_facts, events, facts_of, lives_in, page_facts, pages, pcpu_facts, percpu}
use Rattle.vms_world.specs.Common.{state_at}
use Rattle.vms_world.specs.declared.worlds.World.{World}
use Rattle.vms_core.specs.declared.steps.Step.TheVariants as page_steps
use Rattle.vms_core.specs.Steps as page_roles
use Rattle.vms_event_core.specs.declared.steps.EventStep.TheVariants as event_steps
use Rattle.vms_event_core.specs.Events as event_histories
use Rattle.vms_event_core.specs.Steps as event_roles
use Rattle.vms_pcpu_core.specs.declared.steps.PcpuStep.TheVariants as pcpu_steps
use Rattle.vms_pcpu_core.specs.Histories as pcpu_histories
use Rattle.vms_pcpu_core.specs.Steps as pcpu_roles
use Rattle.vms_core.specs.Cells.{HasShape}
use Rattle.vms_pcpu_core.specs.States.{counters_of}
use Rattle.vms_history.proofs.Common.{owner_may_own}
use Rattle.vms_seats.specs.Common.{IsLive}
use Rattle.vms_seats.proofs.Common.{is_of-begun}
use Rattle.vms_words.specs.Common as page_words
use Rattle.vms_event.specs.Common as event_words
use Rattle.vms_event.proofs.KnownSpending.{begun-covers}
use Rattle.vms_pcpu.specs.Common as pcpu_words
use Rattle.vms_tables.specs.Common.{AreFrom, AreMadeFrom, AreTables, HaveSeenNothing, TablePasses, passes_of}
use Rattle.vms_tables.specs.declared.passes.CpuPasses.{CpuPasses}
use Rattle.vms_tables.specs.declared.tables.Tables.{Tables}
use Rattle.vms_counters.specs.Opened.{AreCounters, AreKept, BeginsPasses, EndsPasses, HoldsEvents, HoldsPages}
use Rattle.vms_counters.specs.Opened.{HoldsPcpu, MayBegin, no_volumes}
use Rattle.vms_counters.specs.Handles.{IsHandle, volumes_in}
use Rattle.vms_counters.proofs.Kept.{home-kept, knows-begun_control, knows-begun_cpu, knows-ended_control}
use Rattle.vms_counters.proofs.Kept.{knows-ended_cpu, knows-first, none-live-kept}
use Rattle.vms_counters.proofs.SpentByOthers.{counters-others, events-others, pages-others}

number_of : Option CpuId → ℕ
number_of (Some cpu) = cpu.number
number_of None = 0

same_owner : (one other : CpuId) → Some one ≡ Some other → one.number ≡ other.number
unfolding number_of
same_owner one other same = ap number_of same

module _ (tables : Tables) (last : World) (new old passes : TablePasses) (volumes : List (Option CpuVolumes))
    (control : Bool) (kept : AreKept tables last old volumes control) where
  pub kept-begun : (cpu : CpuId) → cpu.number < length volumes → BeginsPasses (Some cpu) new old passes
      → AreKept tables last new (set volumes cpu.number None) control
  kept-begun cpu known begun = record {
    pages = knows-begun_cpu pages HoldsPages pages-others page_steps.Split page_words.begins_it page_steps.Join
        page_words.ends_it tables.pages new.pages old.pages passes.pages volumes control kept.pages cpu known
        begun.pages;
    events = knows-begun_cpu events HoldsEvents events-others event_steps.Split event_words.begins_it event_steps.Join
        event_words.ends_it tables.events new.events old.events passes.events volumes control kept.events cpu known
        begun.events;
    counters = knows-begun_cpu percpu HoldsPcpu counters-others pcpu_steps.Split pcpu_words.begins_it pcpu_steps.Join
        pcpu_words.ends_it tables.counters new.counters old.counters passes.counters volumes control kept.counters cpu
        known begun.counters;
    one_each = length-set volumes cpu.number None ∙ kept.one_each;
    shaped = kept.shaped;
    states = kept.states;
    words = kept.words;
  }

  pub kept-begun_control : BeginsPasses None new old passes → AreKept tables last new volumes false
  kept-begun_control begun = record {
    pages = knows-begun_control pages HoldsPages pages-others page_steps.Split page_words.begins_it page_steps.Join
        page_words.ends_it tables.pages new.pages old.pages passes.pages volumes control kept.pages begun.pages;
    events = knows-begun_control events HoldsEvents events-others event_steps.Split event_words.begins_it
        event_steps.Join event_words.ends_it tables.events new.events old.events passes.events volumes control
        kept.events begun.events;
    counters = knows-begun_control percpu HoldsPcpu counters-others pcpu_steps.Split pcpu_words.begins_it
        pcpu_steps.Join pcpu_words.ends_it tables.counters new.counters old.counters passes.counters volumes control
        kept.counters begun.counters;
    one_each = kept.one_each;
    shaped = kept.shaped;
    states = kept.states;
    words = kept.words;
  }

  module _ (live_page : IsLive pages passes.pages) (live_event : IsLive events passes.events)
      (live_pcpu : IsLive percpu passes.counters) (same_page : passes.pages.facts ≡ old.pages.facts)
      (same_event : passes.events.facts ≡ old.events.facts) (same_pcpu : passes.counters.facts ≡ old.counters.facts)
      (ended : EndsPasses new old passes) where
    pub kept-ended : (cpu : CpuId) (own : CpuVolumes) → cpu.number < length volumes → passes.pages.cpu ≡ Some cpu
        → passes.events.cpu ≡ Some cpu → passes.counters.cpu ≡ Some cpu
        → HoldsPages passes.pages.facts passes.pages.seen cpu own
        → HoldsEvents passes.events.facts passes.events.seen cpu own
        → HoldsPcpu passes.counters.facts passes.counters.seen cpu own
        → AreKept tables last new (set volumes cpu.number (Some own)) control
    kept-ended cpu own known owns_page owns_event owns_pcpu holds_page holds_event holds_pcpu = record {
      pages = knows-ended_cpu pages HoldsPages pages-others page_steps.Split page_words.begins_it page_steps.Join
          page_words.ends_it tables.pages new.pages old.pages passes.pages volumes control kept.pages live_page
          same_page ended.pages cpu own owns_page known holds_page;
      events = knows-ended_cpu events HoldsEvents events-others event_steps.Split event_words.begins_it
          event_steps.Join event_words.ends_it tables.events new.events old.events passes.events volumes control
          kept.events live_event same_event ended.events cpu own owns_event known holds_event;
      counters = knows-ended_cpu percpu HoldsPcpu counters-others pcpu_steps.Split pcpu_words.begins_it
          pcpu_steps.Join pcpu_words.ends_it tables.counters new.counters old.counters passes.counters volumes control
          kept.counters live_pcpu same_pcpu ended.counters cpu own owns_pcpu known holds_pcpu;
      one_each = length-set volumes cpu.number (Some own) ∙ kept.one_each;
      shaped = kept.shaped;
      states = kept.states;
      words = kept.words;
    }

    pub kept-ended_control : passes.pages.cpu ≡ None → passes.events.cpu ≡ None → passes.counters.cpu ≡ None
        → AreKept tables last new volumes true
    kept-ended_control none_page none_event none_pcpu = record {
      pages = knows-ended_control pages HoldsPages pages-others page_steps.Split page_words.begins_it page_steps.Join
          page_words.ends_it tables.pages new.pages old.pages passes.pages volumes control kept.pages live_page
          same_page ended.pages none_page;
      events = knows-ended_control events HoldsEvents events-others event_steps.Split event_words.begins_it
          event_steps.Join event_words.ends_it tables.events new.events old.events passes.events volumes control
          kept.events live_event same_event ended.events none_event;
      counters = knows-ended_control percpu HoldsPcpu counters-others pcpu_steps.Split pcpu_words.begins_it
          pcpu_steps.Join pcpu_words.ends_it tables.counters new.counters old.counters passes.counters volumes control
          kept.counters live_pcpu same_pcpu ended.counters none_pcpu;
      one_each = kept.one_each;
      shaped = kept.shaped;
      states = kept.states;
      words = kept.words;
    }

module _ (header : Header) (tables : Tables) (are : AreTables header tables) where
  layout-pages : tables.pages.facts.layout ≡ header.layout
  layout-pages = ap (λ (facts : Facts). facts.layout) are.pages

  -- a CPU of one table that is online is one of the others
  online-events : (cpu : CpuId) → MayOwnCpu tables.pages.facts.layout tables.pages.facts.base.cpu (Some cpu)
      → event_histories.MayOwn tables.events.facts (Some cpu)
  online-events cpu may = subst (λ (facts : EventFacts). event_histories.MayOwn facts (Some cpu)) (sym are.events)
      (subst (λ (shape : Shape). MayOwnCpu shape tables.pages.facts.base.cpu (Some cpu)) layout-pages may)

  online-counters : (cpu : CpuId) → MayOwnCpu tables.pages.facts.layout tables.pages.facts.base.cpu (Some cpu)
      → pcpu_histories.MayOwn tables.counters.facts (Some cpu)
  online-counters cpu may = subst (λ (facts : PcpuFacts). pcpu_histories.MayOwn facts (Some cpu)) (sym are.counters)
      (subst (λ (shape : Shape). MayOwnCpu shape tables.pages.facts.base.cpu (Some cpu)) layout-pages may)

  module _ (last : World) (mains : TablePasses) (volumes : List (Option CpuVolumes)) (control : Bool)
      (kept : AreKept tables last mains volumes control) where
    pub known-page : (cpu : CpuId) → pages.MayOwn mains.pages.facts (Some cpu) → cpu.number < length volumes
    known-page cpu may =
        let here = subst (λ (facts : Facts). MayOwnCpu facts.layout facts.base.cpu (Some cpu)) kept.pages.of.facts may
        in
        omega (arith, here.0, kept.one_each)

    pub known-event : (cpu : CpuId) → events.MayOwn mains.events.facts (Some cpu) → cpu.number < length volumes
    known-event cpu may =
        let here = subst (λ (facts : EventFacts). event_histories.MayOwn facts (Some cpu))
        (kept.events.of.facts ∙ are.events) may in
        omega (arith, here.0, kept.one_each, ap (λ (shape : Shape). shape.cpus) layout-pages)

    pub known-pcpu : (cpu : CpuId) → percpu.MayOwn mains.counters.facts (Some cpu) → cpu.number < length volumes
    known-pcpu cpu may =
        let here = subst (λ (facts : PcpuFacts). pcpu_histories.MayOwn facts (Some cpu))
        (kept.counters.of.facts ∙ are.counters) may in
        omega (arith, here.0, kept.one_each, ap (λ (shape : Shape). shape.cpus) layout-pages)

    -- a CPU that is online, and whose volumes are kept, may get passes
    pub may-begin : (cpu : CpuId) (own : CpuVolumes) → cpu.number < length volumes
        → cpu_at last.pages cpu.number ≡ Online → get_or volumes cpu.number None ≡ Some own
        → MayBegin tables mains cpu own
    may-begin cpu own known online is =
        let may : MayOwnCpu tables.pages.facts.layout tables.pages.facts.base.cpu (Some cpu) =
        (omega (arith, known, kept.one_each), ap (λ states. state_at states cpu.number) (sym kept.states) ∙ online) in
        let home_page = home-kept pages HoldsPages tables.pages mains.pages volumes control kept.pages cpu known own is
        in
        let home_event = home-kept events HoldsEvents tables.events mains.events volumes control kept.events cpu known
        own
        is in
        let home_pcpu = home-kept percpu HoldsPcpu tables.counters mains.counters volumes control kept.counters cpu
        known
        own is in
        record {
          online_pages = may;
          online_events = subst (λ (facts : EventFacts). event_histories.MayOwn facts (Some cpu))
              (sym kept.events.of.facts) (online-events cpu may);
          online_counters = subst (λ (facts : PcpuFacts). pcpu_histories.MayOwn facts (Some cpu))
              (sym kept.counters.of.facts) (online-counters cpu may);
          free = record { pages = home_page.free; events = home_event.free; counters = home_pcpu.free };
          pages = subst (λ (facts : Facts). HoldsPages facts mains.pages.seen cpu own) kept.pages.of.facts
              home_page.holds;
          events = home_event.holds;
          counters = home_pcpu.holds;
        }

  -- where all volumes are kept and no control handle is out, no pass lives in any table
  module _ (last : World) (mains : TablePasses) (volumes : List (Option CpuVolumes))
      (kept : AreKept tables last mains volumes true) (all : All IsSome volumes) where
    pub pages-ended : (q : ℕ) → lives_in page_roles.role mains.pages.seen q ≡ false
    pages-ended = none-live-kept pages HoldsPages tables.pages mains.pages volumes kept.pages all
        (known-page last mains volumes true kept)

    pub events-ended : (q : ℕ) → lives_in event_roles.role mains.events.seen q ≡ false
    events-ended = none-live-kept events HoldsEvents tables.events mains.events volumes kept.events all
        (known-event last mains volumes true kept)

    pub counters-ended : (q : ℕ) → lives_in pcpu_roles.role mains.counters.seen q ≡ false
    counters-ended = none-live-kept percpu HoldsPcpu tables.counters mains.counters volumes kept.counters all
        (known-pcpu last mains volumes true kept)

-- the main passes are of the tables
pub of-kept : (tables : Tables) (last : World) (mains : TablePasses) (volumes : List (Option CpuVolumes))
    (control : Bool) → AreKept tables last mains volumes control → AreFrom tables mains
of-kept tables last mains volumes control kept =
    record { pages = kept.pages.of; events = kept.events.of; counters = kept.counters.of }

-- a handle that ends, whose tables are those of the counters
module _ (header : Header) (own tables : Tables) (same : own ≡ tables) (last : World) where
  module _ (mains : TablePasses) (volumes : List (Option CpuVolumes)) (control : Bool)
      (kept : AreKept tables last mains volumes control) (cpu : CpuId) (passes : CpuPasses)
      (handle : IsHandle header own cpu passes) (owner : CpuId)
      (owning : page_words.IsOwningPass passes.page.pass owner passes.page.volume) where
    pub known-cpu : cpu.number < length volumes
    known-cpu =
        let may = subst (λ (facts : Facts). MayOwnCpu facts.layout facts.base.cpu (Some cpu))
        (handle.between.of.facts ∙ ap (λ (t : Tables). t.pages.facts) same)
        (owner_may_own pages passes.page.pass.facts passes.page.pass.seen passes.page.pass.number cpu owning.live.legal
        (owning.live.owner ∙ handle.owns)) in
        omega (arith, may.0, kept.one_each)

  pub ended-cpu : (new old : TablePasses) (volumes : List (Option CpuVolumes)) (control : Bool)
      → AreKept tables last old volumes control → (cpu : CpuId) (passes : CpuPasses)
      → IsHandle header own cpu passes → (owner : CpuId)
      → page_words.IsOwningPass passes.page.pass owner passes.page.volume → (counter_owner : CpuId)
      → pcpu_words.IsReady passes.pcpu.pass → passes.pcpu.pass.cpu ≡ Some counter_owner
      → pcpu_words.HoldsSpending passes.pcpu.pass.facts passes.pcpu.pass.seen counter_owner.number passes.pcpu.volume
      → EndsPasses new old (passes_of passes)
      → AreKept tables last new (set volumes cpu.number (Some (volumes_in passes))) control
  ended-cpu new old volumes control kept cpu passes handle owner owning counter_owner ready owns holds ended =
      let of_page = handle.between.of.facts ∙ ap (λ (t : Tables). t.pages.facts) same ∙ sym kept.pages.of.facts in
      let of_event = handle.of_event.facts ∙ ap (λ (t : Tables). t.events.facts) same ∙ sym kept.events.of.facts in
      let of_pcpu = handle.of_pcpu.facts ∙ ap (λ (t : Tables). t.counters.facts) same ∙ sym kept.counters.of.facts in
      let is_owner : owner.number ≡ cpu.number = same_owner owner cpu (sym owning.owns ∙ handle.owns) in
      let is_counter_owner : counter_owner.number ≡ cpu.number =
      same_owner counter_owner cpu (sym owns ∙ handle.owns_pcpu) in
      kept-ended tables last new old (passes_of passes) volumes control kept owning.live handle.event.live ready.live
      of_page of_event of_pcpu ended cpu (volumes_in passes)
      (known-cpu old volumes control kept cpu passes handle owner owning) handle.owns handle.event.owns
      handle.owns_pcpu
      (subst (λ n. page_words.HoldsSpending passes.page.pass.facts.layout passes.page.pass.seen n passes.page.volume)
      is_owner owning.holds)
      handle.event.covers
      (subst (λ n. pcpu_words.HoldsSpending passes.pcpu.pass.facts passes.pcpu.pass.seen n passes.pcpu.volume)
      is_counter_owner holds)

-- volumes are the same where they are in each table
pub same-volumes : (one other : CpuVolumes) → one.page ≡ other.page → one.event ≡ other.event → one.pcpu ≡ other.pcpu
    → one ≡ other
same-volumes one other page event pcpu = λ i. record { page = page i; event = event i; pcpu = pcpu i }

-- passes that have begun are of the tables, and the volumes of the events hold what the CPU has counted
module _ (tables : Tables) (new old passes : TablePasses) (cpu : CpuId) (own : CpuVolumes) (of : AreFrom tables old)
    (may : MayBegin tables old cpu own) (begun : BeginsPasses (Some cpu) new old passes) where
  pub of-begun : AreFrom tables passes
  of-begun = record {
    pages = is_of-begun pages page_steps.Split page_words.begins_it tables.pages new.pages old.pages passes.pages
        (Some cpu) begun.pages of.pages;
    events = is_of-begun events event_steps.Split event_words.begins_it tables.events new.events old.events
        passes.events (Some cpu) begun.events of.events;
    counters = is_of-begun percpu pcpu_steps.Split pcpu_words.begins_it tables.counters new.counters old.counters
        passes.counters (Some cpu) begun.counters of.counters;
  }

  pub event-begun : event_words.IsCpuPass passes.events cpu own.event
  event-begun = begun-covers new.events old.events passes.events cpu own.event begun.events may.free.events may.events

-- a CPU that has changed nothing holds nothing
module _ (header : Header) where
  pub first-pages : (facts : Facts) → facts.layout ≡ header.layout → (cpu : CpuId)
      → HoldsPages facts [] cpu (no_volumes header)
  first-pages facts same cpu = subst (λ (shape : Shape). page_words.HoldsSpending shape [] cpu.number
      (replicate (counter_count header.layout) 0)) (sym same) (record {
        one_each = let none : ℕ = 0 in length-replicate (counter_count header.layout) none;
        spent_within = λ k known. omega arith;
        most = λ k known.
            let none : ℕ = 0 in
            let zero_at = get_or-replicate (counter_count header.layout) k none none known in
            omega (arith, zero_at);
      })

  pub first-events : (facts : EventFacts) (cpu : CpuId) → HoldsEvents facts [] cpu (no_volumes header)
  first-events facts cpu = record {
    one_each = let none : ℕ = 0 in length-replicate event_count none;
    spent_within = λ k known. omega arith;
  }

  pub first-counters : (facts : PcpuFacts) → counters_of facts.base ≡ length header.counters → (cpu : CpuId)
      → HoldsPcpu facts [] cpu (no_volumes header)
  first-counters facts same cpu = record {
    one_each = let none : ℕ = 0 in length-replicate (length header.counters) none ∙ sym same;
    spent_within = λ j known. omega arith;
  }

-- counters as they are opened: no pass has begun, and no CPU has changed anything
pub kept-opened : (header : Header) → IsHeader header → (w : World) → IsWorldOf header w → (tables : Tables)
    → AreTables header tables → AreMadeFrom w tables → (mains : TablePasses) → AreFrom tables mains
    → HaveSeenNothing mains
    → AreCounters header tables w mains (replicate header.layout.cpus (Some (no_volumes header))) true
kept-opened header valid w world tables are made mains of nothing =
    let page_is : tables.pages.facts ≡ page_facts header w = tables_page in
    record {
      valid = valid;
      are = are;
      kept = record {
        pages = knows-first pages HoldsPages tables.pages mains.pages of.pages nothing.pages
            (subst pages.CanBegin (sym (of.pages.facts ∙ page_is)) world.page_base) header.layout.cpus
            (no_volumes header) (λ cpu known.
            first-pages header mains.pages.facts (ap (λ (facts : Facts). facts.layout) (of.pages.facts ∙ page_is)) cpu);
        events = knows-first events HoldsEvents tables.events mains.events of.events nothing.events
            (subst events.CanBegin (sym (of.events.facts ∙ tables_event)) world.event_base) header.layout.cpus
            (no_volumes header) (λ cpu known. first-events header mains.events.facts cpu);
        counters = knows-first percpu HoldsPcpu tables.counters mains.counters of.counters nothing.counters
            (subst percpu.CanBegin (sym (of.counters.facts ∙ tables_pcpu)) world.pcpu_base) header.layout.cpus
            (no_volumes header) (λ cpu known.
            first-counters header mains.counters.facts
            (ap (λ (facts : PcpuFacts). counters_of facts.base) of.counters.facts ∙ are.declared) cpu);
        one_each = length-replicate header.layout.cpus (Some (no_volumes header))
            ∙ ap (λ (facts : Facts). facts.layout.cpus) (sym page_is);
        shaped = subst (λ (facts : Facts). HasShape facts.layout w.pages) (sym page_is)
            world.page_base.opening.shaped;
        states = ap (λ (state : State). state.cpu) (sym made.pages);
        words = ap (λ (state : EventState). length state.words) (sym made.events);
      };
    }
  where
    tables_page : tables.pages.facts ≡ page_facts header w
    tables_page = are.pages ∙ ap (λ (state : State). facts_of header state) made.pages

    tables_event : tables.events.facts ≡ event_facts header w
    tables_event = are.events
        ∙ ap (λ (state : State). event_facts header (record w { pages = state; events = tables.events.facts.base }))
        made.pages
        ∙ ap (λ (state : EventState). event_facts header (record w { events = state })) made.events

    tables_pcpu : tables.counters.facts ≡ pcpu_facts header w
    tables_pcpu = are.counters
        ∙ ap (λ (state : State). pcpu_facts header (record w { pages = state; counters = tables.counters.facts.base }))
        made.pages
        ∙ ap (λ (state : PcpuState). pcpu_facts header (record w { counters = state })) made.counters
