-- The passes of lanes begin one after another, with their jobs.
use Rattle.std.proofs.Common.{◌≡◌, ℕ, suc, ◌+◌, ◌<◌, ◌≤◌, ◌||◌, Bool, true, false, cond, List, [], ◌∷◌, ◌++◌, length}
use Rattle.std.proofs.Common.{map, filter, Some, refl, sym, ap, subst, ◌∙◌, arith, append-nil, if◌then◌else◌, IsTrue}
use Rattle.std.proofs.Common.{◌↔◌}
use Rattle.std.proofs.lemmas.List.Elements.{All-append, All-cons, All-get_or, All-nil}
use Rattle.vms_world.specs.Common.{Header, CpuId, MayOwnCpu, IsCpu, Shape, own, Machine, State, pages, EventState}
use Rattle.vms_world.specs.Common.{EventFacts, events, PcpuState, PcpuFacts, percpu, facts_of, LaneItem, Fits, is_lane}
use Rattle.vms_world.specs.Common.{lane_item, lane_items, Start, Item, Lane, Cpu, Control, has_line, is_among}
use Rattle.vms_world.specs.Common.{lanes_below, lanes_of, owner_of, IsWorldOf, event_facts, page_facts, pcpu_facts}
use Rattle.vms_history.specs.Legal.{IsLegal}
use Rattle.vms_seats.specs.Common.{Pass}
use Rattle.vms_tables.specs.declared.tables.Tables.{Tables}
use Rattle.vms_tables.specs.Common.{AreFrom, HaveSeenNothing, TablePasses, AreMadeFrom, AreTables}
use Rattle.vms_world.specs.declared.worlds.World.{World}
use Rattle.vms_file_order.specs.Common.{PassSteps, StandOnce, event_passes, page_passes, pcpu_passes, IsStartOf}
use Rattle.vms_file_order.proofs.Common.{owners-online, HasPlace-among, StandOnce-lanes, among-lanes, is_among-append}
use Rattle.vms_file_order.proofs.Common.{is_lane-sym}
use Rattle.vms_phase.specs.declared.jobs.LaneJob.{LaneJob}
use Rattle.vms_lane.specs.Common.{passes_in}
use Rattle.vms_phase.specs.Common.{HasBegunLanes, AreJobs, HaveBegunJobs, IsJob, MayRunJob, AreFresh, BeginPasses}
use Rattle.vms_phase.specs.Common.{HaveBegun, MayBeginLane}
use Rattle.vms_phase.proofs.BegunLanes.{lane-fresh, lanes-begun}
use Rattle.vms_phase.proofs.LaneLines.{lane_items-none}

-- a lane that comes last of lanes that stand once each is apart from the others
once-last : (lanes : List Lane) (lane : Lane) → StandOnce (lanes ++ lane ∷ [])
    → StandOnce lanes × (is_among lane lanes ≡ false)
once-last [] lane once = (tt, refl)
once-last (first ∷ lanes) lane once = by (is_among first lanes) (is_lane lane first) refl refl
    (once-last lanes lane once.1)
    (sym (is_among-append first lanes (lane ∷ [])) ∙ once.0)
  where
    by : (a b : Bool) → is_among first lanes ≡ a → is_lane lane first ≡ b
        → StandOnce lanes × (is_among lane lanes ≡ false)
        → (is_among first lanes || (is_lane lane first || false)) ≡ false
        → StandOnce (first ∷ lanes) × (is_among lane (first ∷ lanes) ≡ false)
    by a b is_a is_b rest either = join a b is_a is_b rest (sym (ap (λ x. x || (is_lane lane first || false)) is_a)
        ∙ either) (sym (ap (λ x. a || (x || false)) is_b)
        ∙ sym (ap (λ x. x || (is_lane lane first || false)) is_a) ∙ either)
      where
        join : (a b : Bool) → is_among first lanes ≡ a → is_lane lane first ≡ b
            → StandOnce lanes × (is_among lane lanes ≡ false) → (a || (is_lane lane first || false)) ≡ false
            → (a || (b || false)) ≡ false
            → StandOnce (first ∷ lanes) × (is_among lane (first ∷ lanes) ≡ false)
        join true b is_a is_b rest one both = absurd cc
        join false true is_a is_b rest one both = absurd cc
        join false false is_a is_b rest one both = (
          (is_a, rest.0),
          ap (λ x. x || is_among lane lanes) (is_lane-sym first lane ∙ is_b) ∙ rest.1,
        )

-- lanes that stand once each do so without those after them
once-front : (lanes more : List Lane) → StandOnce (lanes ++ more) → StandOnce lanes
once-front [] more once = tt
once-front (first ∷ lanes) more once = (
  by (is_among first lanes) refl (sym (is_among-append first lanes more) ∙ once.0),
  once-front lanes more once.1,
)
  where
    by : (a : Bool) → is_among first lanes ≡ a → (is_among first lanes || is_among first more) ≡ false
        → is_among first lanes ≡ false
    by true is either =
        let both : true ≡ false = sym (ap (λ x. x || is_among first more) is) ∙ either in absurd cc
    by false is either = is

once-below : (n : ℕ) (items : List Item) → StandOnce (lanes_below n items)
once-below n items =
    let shape : Shape = record { zones = []; nodes = []; cpus = n; positions = 0 } in
    once-front (lanes_below n items) (if has_line Control items then Control ∷ [] else [])
    (StandOnce-lanes shape items)

-- a lane has a line where some line is of it
has_line-some : (lane : Lane) (items : List Item) → 0 < length (lane_items lane items) → has_line lane items ≡ true
has_line-some lane items some = by (has_line lane items) refl
  where
    by : (b : Bool) → has_line lane items ≡ b → has_line lane items ≡ true
    by true is = is
    by false none = absurd (omega (arith, some, ap length (lane_items-none lane items none)))

has_line-none : (lane : Lane) (items : List Item) → length (lane_items lane items) ≤ 0 → has_line lane items ≡ false
has_line-none lane [] none = refl
has_line-none lane (item ∷ items) none =
    by (is_lane lane item.lane) (is_lane item.lane lane) (is_lane-sym lane item.lane) none (has_line-none lane items)
  where
    of_lane : List Item
    of_lane = filter (λ (i : Item). is_lane lane i.lane) items

    by : (a b : Bool) → a ≡ b → length (map lane_item (cond a (item ∷ of_lane) of_lane)) ≤ 0
        → (length (map lane_item of_lane) ≤ 0 → has_line lane items ≡ false) → (b || has_line lane items) ≡ false
    by true true same none rest = absurd (omega arith)
    by false false same none rest = rest none
    by true false same none rest = absurd cc
    by false true same none rest = absurd cc

-- lines that are those of a script: there are some, or none
pub some-lines : (script lines : List LaneItem) (empty : Bool) → lines ≡ script → (IsTrue empty ↔ (lines ≡ []))
    → empty ≡ false → 0 < length script
some-lines [] lines empty same told some = let none : IsTrue empty = told.1 same in absurd cc
some-lines (line ∷ script) lines empty same told some = omega arith

pub no-lines : (script lines : List LaneItem) (empty : Bool) → lines ≡ script → (IsTrue empty ↔ (lines ≡ []))
    → empty ≡ true → length script ≤ 0
no-lines script lines empty same told none = omega (arith, ap length (sym same ∙ told.0 none))

-- the facts of tables that were made from a world
module _ (header : Header) (tables : Tables) (w : World) (are : AreTables header tables) (made : AreMadeFrom w tables)
  where
    pub pages-told : tables.pages.facts ≡ page_facts header w
    pages-told = are.pages ∙ ap (facts_of header) made.pages

    abbrev event_told : State → EventState → EventFacts
    event_told s base = record { layout = header.layout; cpus = s.cpu; base = base }

    abbrev pcpu_told : State → PcpuState → PcpuFacts
    pcpu_told s base = record { layout = header.layout; cpus = s.cpu; base = base }

    pub events-told : tables.events.facts ≡ event_facts header w
    events-told = are.events ∙ ap (λ (s : State). event_told s tables.events.facts.base) made.pages
        ∙ ap (event_told w.pages) made.events

    pub counters-told : tables.counters.facts ≡ pcpu_facts header w
    counters-told = are.counters ∙ ap (λ (s : State). pcpu_told s tables.counters.facts.base) made.pages
        ∙ ap (pcpu_told w.pages) made.counters

-- before the first lane
none-begun : {F K S : Type 0} (machine : Machine F K S) (passes : PassSteps K machine.role) (main : Pass F K)
    → main.seen ≡ [] → machine.CanBegin main.facts → HasBegunLanes machine passes [] main
none-begun machine passes main nothing can = record {
  legal = subst (IsLegal machine main.facts) (sym nothing) can;
  own_events = ap (λ h. own h 0) nothing;
}

module _ (header : Header) (tables : Tables) (w : World) (items : List Item) where
  pub HaveBegunJobs-none : AreTables header tables → AreMadeFrom w tables → IsWorldOf header w → (mains : TablePasses)
      → AreFrom tables mains → HaveSeenNothing mains → HaveBegunJobs header tables w items [] mains []
  HaveBegunJobs-none are made world mains of nothing = record {
    of = of;
    begun = record {
      pages = none-begun pages page_passes mains.pages nothing.pages
          (subst pages.CanBegin (sym (of.pages.facts ∙ pages-told header tables w are made)) world.page_base);
      events = none-begun events event_passes mains.events nothing.events
          (subst events.CanBegin (sym (of.events.facts ∙ events-told header tables w are made)) world.event_base);
      counters = none-begun percpu pcpu_passes mains.counters nothing.counters
          (subst percpu.CanBegin (sym (of.counters.facts ∙ counters-told header tables w are made)) world.pcpu_base);
    };
    each = tt;
    may = All-nil (MayRunJob header tables);
  }

  -- one job more
  jobs-push : (number : ℕ) (lanes : List Lane) (jobs : List LaneJob) (lane : Lane) (job : LaneJob)
      → AreJobs header tables w items number lanes jobs
      → IsJob header tables w items (number + length lanes) lane job
      → AreJobs header tables w items number (lanes ++ lane ∷ []) (jobs ++ job ∷ [])
  jobs-push number [] [] lane job are_jobs is =
      let at : number + 0 ≡ number = omega arith in
      (subst (λ (n : ℕ). IsJob header tables w items n lane job) at is, tt)
  jobs-push number [] (first ∷ jobs) lane job are_jobs is = absurd are_jobs
  jobs-push number (l ∷ lanes) [] lane job are_jobs is = absurd are_jobs
  jobs-push number (l ∷ lanes) (first ∷ jobs) lane job are_jobs is =
      let at : number + suc (length lanes) ≡ suc number + length lanes = omega arith in (
        are_jobs.0,
        jobs-push (suc number) lanes jobs lane job are_jobs.1
            (subst (λ (n : ℕ). IsJob header tables w items n lane job) at is),
      )

  -- once the passes of one lane more have begun, its job stands next
  module _ (lanes : List Lane) (mains : TablePasses) (jobs : List LaneJob)
      (have : HaveBegunJobs header tables w items lanes mains jobs) (lane : Lane) (new : TablePasses) (job : LaneJob)
      (begun : BeginPasses (owner_of lane) new mains (passes_in job.passes)) where
    pub AreFresh-next : AreFresh (suc (length lanes)) (passes_in job.passes)
    AreFresh-next =
        let passes = passes_in job.passes in
        record {
          pages = lane-fresh pages page_passes lanes lane new.pages mains.pages passes.pages have.begun.pages
              begun.pages;
          events = lane-fresh events event_passes lanes lane new.events mains.events passes.events
              have.begun.events begun.events;
          counters = lane-fresh percpu pcpu_passes lanes lane new.counters mains.counters passes.counters
              have.begun.counters begun.counters;
        }

    pub HaveBegun-next : HaveBegun (lanes ++ lane ∷ []) new
    HaveBegun-next =
        let passes = passes_in job.passes in
        record {
          pages = lanes-begun pages page_passes lanes lane new.pages mains.pages passes.pages have.begun.pages
              begun.pages;
          events = lanes-begun events event_passes lanes lane new.events mains.events passes.events
              have.begun.events begun.events;
          counters = lanes-begun percpu pcpu_passes lanes lane new.counters mains.counters passes.counters
              have.begun.counters begun.counters;
        }

    pub HaveBegunJobs-next : IsJob header tables w items (suc (length lanes)) lane job → MayRunJob header tables job
        → HaveBegunJobs header tables w items (lanes ++ lane ∷ []) new (jobs ++ job ∷ [])
    HaveBegunJobs-next is may = record {
      of = record {
        pages = record {
          table = begun.pages.main.table ∙ have.of.pages.table;
          facts = begun.pages.main.facts ∙ have.of.pages.facts;
        };
        events = record {
          table = begun.events.main.table ∙ have.of.events.table;
          facts = begun.events.main.facts ∙ have.of.events.facts;
        };
        counters = record {
          table = begun.counters.main.table ∙ have.of.counters.table;
          facts = begun.counters.main.facts ∙ have.of.counters.facts;
        };
      };
      begun = HaveBegun-next;
      each = jobs-push 1 lanes jobs lane job have.each
          (let at : suc (length lanes) ≡ 1 + length lanes = omega arith in
          subst (λ (n : ℕ). IsJob header tables w items n lane job) at is);
      may = All-append (MayRunJob header tables) jobs (job ∷ []) have.may
          (All-cons (MayRunJob header tables) job [] may (All-nil (MayRunJob header tables)));
    }

  module _ (c : CpuId) (mains : TablePasses) (jobs : List LaneJob)
      (below : HaveBegunJobs header tables w items (lanes_below c.number items) mains jobs) where
    abbrev lanes : List Lane
    lanes = lanes_below c.number items

    -- a CPU without a line
    pub HaveBegunBelow-skip : length (lane_items (Cpu c) items) ≤ 0
        → HaveBegunJobs header tables w items (lanes_below (suc c.number) items) mains jobs
    HaveBegunBelow-skip none =
        let no_line = has_line-none (Cpu c) items none in
        let same : lanes ≡ lanes_below (suc c.number) items =
        sym (ap (λ b. lanes ++ (if b then Cpu c ∷ [] else [])) no_line ∙ append-nil lanes) in
        subst (λ (ls : List Lane). HaveBegunJobs header tables w items ls mains jobs) same below

    module _ (some : 0 < length (lane_items (Cpu c) items)) where
      pub lanes-more : lanes ++ Cpu c ∷ [] ≡ lanes_below (suc c.number) items
      lanes-more = sym (ap (λ b. lanes ++ (if b then Cpu c ∷ [] else [])) (has_line-some (Cpu c) items some))

      -- its passes may begin
      pub MayBeginLane-next : AreMadeFrom w tables → (start : Start) → IsStartOf header start w
          → Fits header start items → IsCpu header.layout c.number → MayBeginLane header tables lanes (Cpu c) mains
      MayBeginLane-next made start is fits c_in =
          let once = once-last lanes (Cpu c) (subst StandOnce (sym lanes-more) (once-below (suc c.number) items)) in
          let at = HasPlace-among (lanes_of header.layout items) (Cpu c)
          (among-lanes header items (Cpu c) c_in (has_line-some (Cpu c) items some)) in
          let P : Lane → Type 0 = λ lane. MayOwnCpu header.layout w.pages.cpu (owner_of lane) in
          record {
            of = below.of;
            begun = below.begun;
            once = once.0;
            apart = once.1;
            online = subst (λ (s : State). MayOwnCpu header.layout s.cpu (Some c)) (sym made.pages)
                (subst P at.there (All-get_or P (lanes_of header.layout items) at.place Control at.below
                (owners-online header start w is items fits)));
          }

  -- the control lane comes after the lanes of CPUs, if it has lines
  abbrev below_all : List Lane
  below_all = lanes_below header.layout.cpus items

  pub control-skip : (mains : TablePasses) (jobs : List LaneJob)
      → HaveBegunJobs header tables w items (lanes_below header.layout.cpus items) mains jobs
      → length (lane_items Control items) ≤ 0
      → HaveBegunJobs header tables w items (lanes_of header.layout items) mains jobs
  control-skip mains jobs below none =
      let no_line = has_line-none Control items none in
      let same : below_all ≡ lanes_of header.layout items =
      sym (ap (λ b. below_all ++ (if b then Control ∷ [] else [])) no_line ∙ append-nil below_all) in
      subst (λ (ls : List Lane). HaveBegunJobs header tables w items ls mains jobs) same below

  pub control-more : 0 < length (lane_items Control items)
      → lanes_below header.layout.cpus items ++ Control ∷ [] ≡ lanes_of header.layout items
  control-more some =
      sym (ap (λ b. below_all ++ (if b then Control ∷ [] else [])) (has_line-some Control items some))

  pub control-once : 0 < length (lane_items Control items)
      → StandOnce (lanes_below header.layout.cpus items ++ Control ∷ [])
  control-once some = subst StandOnce (sym (control-more some)) (StandOnce-lanes header.layout items)

  pub control-apart : 0 < length (lane_items Control items) → StandOnce (lanes_below header.layout.cpus items)
      × (is_among Control (lanes_below header.layout.cpus items) ≡ false)
  control-apart some = once-last below_all Control (control-once some)
