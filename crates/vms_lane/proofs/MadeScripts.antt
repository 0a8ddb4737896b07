-- The lines of a lane, one after another.
use Rattle.std.proofs.Common.{◌≡◌, ℕ, ◌<◌, List, [], ◌∷◌, ◌++◌, length, Option, Some, None, refl, sym, ap, ◌∙◌, subst}
use Rattle.std.proofs.Common.{arith, append_assoc, append-nil}
use Rattle.vms_world.specs.Common.{Header, ZoneSize, Event, own, Machine, pages, events, percpu, LaneItem}
use Rattle.vms_world.specs.Common.{spent_on_counter, spent_on_event, spent_on_pcpu, Act, Lane, EventSteps, PageSteps}
use Rattle.vms_world.specs.Common.{PcpuSteps, MakesActs, act as one_act, event_facts, pcpu_facts}
use Rattle.vms_seats.specs.Common.{Pass, Made}
use Rattle.vms_seats.proofs.Common.{calls-both, calls-none}
use Rattle.vms_tables.specs.declared.passes.CpuPasses.{CpuPasses}
use Rattle.vms_tables.specs.Common.{AreLive, TablePasses}
use Rattle.vms_world.specs.declared.worlds.World.{World}
use Rattle.vms_answers.specs.declared.answers.Answer.{Answer}
use Rattle.vms_answers.specs.Common.{LaneSteps, no_steps, then_steps, NumberedAnswer, with_answer, read_lane}
use Rattle.vms_answers.proofs.Common.{LaneSteps-same}
use Rattle.vms_lane.specs.Common.{MakeAct, GoesOnWith, MakeLines, acts_in, HasGrown, HasRoom, HaveRoom, HaveSpent}
use Rattle.vms_lane.specs.Common.{spending_of, spent_by_all, sum_of}
use Rattle.vms_lane.proofs.GrownVolumes.{grown-none}

-- the acts of a pass, by its steps
module _ {F K S : Type 0} (machine : Machine F K S) (makes : Act → List (Event K) → List K → Type 0) where
  -- one act
  pub acts-one : (new old : Pass F K) (act : Act) (steps : List K) → makes act old.seen steps
      → Made machine new old steps → GoesOnWith makes old.number (act ∷ []) new.seen old.seen
  acts-one new old act steps is_act made before so_far =
      let p = old.number in
      let more = made.made.extends.0 in
      let same : new.seen ≡ more ++ old.seen = made.made.extends.1 in
      subst (MakesActs makes p (before ++ act ∷ [])) (sym same)
      (one_act before act old.seen more steps so_far is_act
      (ap (λ (h : List (Event K)). own h p) (sym same) ∙ made.made.made))

  -- an act, and others after it
  pub acts-next : (p : ℕ) (act : Act) (acts : List Act) (last mid first : List (Event K))
      → GoesOnWith makes p acts last mid → GoesOnWith makes p (act ∷ []) mid first
      → GoesOnWith makes p (act ∷ acts) last first
  acts-next p act acts last mid first rest one before so_far =
      subst (λ (all : List Act). MakesActs makes p all last) (append_assoc before (act ∷ []) acts)
      (rest (before ++ act ∷ []) (one before so_far))

  -- none
  pub acts-none : (p : ℕ) (h : List (Event K)) → GoesOnWith makes p [] h h
  acts-none p h before so_far =
      subst (λ (all : List Act). MakesActs makes p all h) (sym (append-nil before)) so_far

-- steps in a row
steps-assoc : (a b c : LaneSteps) → then_steps (then_steps a b) c ≡ then_steps a (then_steps b c)
steps-assoc a b c = LaneSteps-same (then_steps (then_steps a b) c) (then_steps a (then_steps b c))
    (append_assoc a.pages b.pages c.pages) (append_assoc a.events b.events c.events)
    (append_assoc a.counters b.counters c.counters)

-- an answer comes before those of later lines
pub with_answer-first : (n : ℕ) (answer : Option Answer) (answers : List NumberedAnswer)
    → with_answer n answer [] ++ answers ≡ with_answer n answer answers
with_answer-first n None answers = refl
with_answer-first n (Some answer) answers = refl

module _ (header : Header) (pressure normal : ZoneSize → ℕ → ℕ → Type 0) (w : World) (lane : Lane) where
  abbrev Lines : List LaneItem → TablePasses → TablePasses → List NumberedAnswer → Type 0
  Lines items new old answers = MakeLines header pressure normal w lane items new old answers

  -- no line
  pub lines-none : (passes : TablePasses) → AreLive passes → Lines [] passes passes []
  lines-none passes live = record {
    steps = no_steps;
    pages = calls-none pages passes.pages live.pages;
    events = calls-none events passes.events live.events;
    counters = calls-none percpu passes.counters live.counters;
    page_acts = acts-none pages (PageSteps header w.pages pressure normal lane passes.pages.number)
        passes.pages.number passes.pages.seen;
    event_acts = acts-none events (λ act h. EventSteps (event_facts header w) lane act) passes.events.number
        passes.events.seen;
    pcpu_acts = acts-none percpu (λ act h. PcpuSteps (pcpu_facts header w) lane act) passes.counters.number
        passes.counters.seen;
    tells = λ rest. refl;
  }

  -- a line, and those after it
  pub lines-next : (item : LaneItem) (items : List LaneItem) (last mid first : TablePasses) (answer : Option Answer)
      (answers : List NumberedAnswer) → Lines items last mid answers
      → MakeAct header pressure normal w lane item.act mid first answer
      → Lines (item ∷ items) last first (with_answer item.number answer answers)
  lines-next item items last mid first answer answers lines line = record {
    steps = then_steps line.steps lines.steps;
    pages = calls-both pages last.pages mid.pages first.pages line.steps.pages lines.steps.pages lines.pages
        line.pages;
    events = calls-both events last.events mid.events first.events line.steps.events lines.steps.events lines.events
        line.events;
    counters = calls-both percpu last.counters mid.counters first.counters line.steps.counters lines.steps.counters
        lines.counters line.counters;
    page_acts = acts-next pages (PageSteps header w.pages pressure normal lane first.pages.number)
        first.pages.number item.act (acts_in items) last.pages.seen mid.pages.seen first.pages.seen
        (subst (λ (p : ℕ). GoesOnWith (PageSteps header w.pages pressure normal lane p) p (acts_in items)
        last.pages.seen mid.pages.seen) line.pages.number lines.page_acts)
        (acts-one pages (PageSteps header w.pages pressure normal lane first.pages.number) mid.pages first.pages
        item.act line.steps.pages line.page_act line.pages);
    event_acts = acts-next events (λ act h. EventSteps (event_facts header w) lane act) first.events.number item.act
        (acts_in items) last.events.seen mid.events.seen first.events.seen
        (subst (λ (p : ℕ). GoesOnWith (λ act h. EventSteps (event_facts header w) lane act) p (acts_in items)
        last.events.seen mid.events.seen) line.events.number lines.event_acts)
        (acts-one events (λ act h. EventSteps (event_facts header w) lane act) mid.events first.events item.act
        line.steps.events line.event_act line.events);
    pcpu_acts = acts-next percpu (λ act h. PcpuSteps (pcpu_facts header w) lane act) first.counters.number item.act
        (acts_in items) last.counters.seen mid.counters.seen first.counters.seen
        (subst (λ (p : ℕ). GoesOnWith (λ act h. PcpuSteps (pcpu_facts header w) lane act) p (acts_in items)
        last.counters.seen mid.counters.seen) line.counters.number lines.pcpu_acts)
        (acts-one percpu (λ act h. PcpuSteps (pcpu_facts header w) lane act) mid.counters first.counters item.act
        line.steps.counters line.pcpu_act line.counters);
    tells = λ rest.
        ap (λ (steps : LaneSteps). read_lane header w lane (item ∷ items) steps)
        (steps-assoc line.steps lines.steps rest)
        ∙ ap (λ (read : Option Answer × LaneSteps). (
          with_answer item.number read.0 (read_lane header w lane items read.1).0,
          (read_lane header w lane items read.1).1,
        )) (line.tells (then_steps lines.steps rest))
        ∙ ap (λ (read : List NumberedAnswer × LaneSteps). (with_answer item.number answer read.0, read.1))
        (lines.tells rest);
  }

-- what acts spend, one after another
module _ (measure : ℕ → Act → ℕ) (act : Act) (acts : List Act) where
  pub room-first : (volume : List ℕ) → HasRoom (λ k. sum_of (measure k) (act ∷ acts)) volume
      → HasRoom (λ k. measure k act) volume
  room-first volume room k inside = let all = room k inside in omega arith

  pub room-rest : (new old : List ℕ) → HasGrown (λ k. measure k act) new old
      → HasRoom (λ k. sum_of (measure k) (act ∷ acts)) old → HasRoom (λ k. sum_of (measure k) acts) new
  room-rest new old grown room k inside =
      let was_inside : k < length old = subst (λ (n : ℕ). k < n) grown.one_each inside in
      let all = room k was_inside in
      let now = grown.each k in
      omega arith

  pub grown-next : (last mid first : List ℕ) → HasGrown (λ k. sum_of (measure k) acts) last mid
      → HasGrown (λ k. measure k act) mid first → HasGrown (λ k. sum_of (measure k) (act ∷ acts)) last first
  grown-next last mid first rest one = record {
    one_each = rest.one_each ∙ one.one_each;
    each = λ k. let more = rest.each k in let now = one.each k in omega arith;
  }

module _ (act : Act) (acts : List Act) where
  pub rooms-first : (passes : CpuPasses) → HaveRoom (spent_by_all (act ∷ acts)) passes
      → HaveRoom (spending_of act) passes
  rooms-first passes room = record {
    page = room-first spent_on_counter act acts passes.page.volume room.page;
    event = room-first spent_on_event act acts passes.event.volume room.event;
    pcpu = room-first spent_on_pcpu act acts passes.pcpu.volume room.pcpu;
  }

  pub rooms-rest : (new old : CpuPasses) → HaveSpent (spending_of act) new old
      → HaveRoom (spent_by_all (act ∷ acts)) old → HaveRoom (spent_by_all acts) new
  rooms-rest new old spent room = record {
    page = room-rest spent_on_counter act acts new.page.volume old.page.volume spent.page room.page;
    event = room-rest spent_on_event act acts new.event.volume old.event.volume spent.event room.event;
    pcpu = room-rest spent_on_pcpu act acts new.pcpu.volume old.pcpu.volume spent.pcpu room.pcpu;
  }

  pub spent-next : (last mid first : CpuPasses) → HaveSpent (spent_by_all acts) last mid
      → HaveSpent (spending_of act) mid first → HaveSpent (spent_by_all (act ∷ acts)) last first
  spent-next last mid first rest one = record {
    page = grown-next spent_on_counter act acts last.page.volume mid.page.volume first.page.volume rest.page one.page;
    event = grown-next spent_on_event act acts last.event.volume mid.event.volume first.event.volume rest.event
        one.event;
    pcpu = grown-next spent_on_pcpu act acts last.pcpu.volume mid.pcpu.volume first.pcpu.volume rest.pcpu one.pcpu;
  }

-- no act spends anything
pub spent-none : (passes : CpuPasses) → HaveSpent (spent_by_all []) passes passes
spent-none passes = record {
  page = grown-none (λ k. 0) (λ k. refl) passes.page.volume passes.page.volume refl;
  event = grown-none (λ e. 0) (λ e. refl) passes.event.volume passes.event.volume refl;
  pcpu = grown-none (λ j. 0) (λ j. refl) passes.pcpu.volume passes.pcpu.volume refl;
}
