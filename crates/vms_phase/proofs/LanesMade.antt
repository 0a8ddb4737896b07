-- Histories in which the passes of the lanes have made their lines are a phase of these lines, which answer what the
-- lanes were told.
use Rattle.std.proofs.Common.{◌≡◌, ℕ, suc, Bool, true, false, List, [], ◌∷◌, ◌++◌, map, refl, sym, ap, subst, ◌∙◌}
use Rattle.std.proofs.Common.{if◌then◌else◌, append-nil, append_assoc, reverse}
use Rattle.std.proofs.lemmas.List.{map-append, reverse-append}
use Rattle.std.specs.Prelude.{All}
use Rattle.std.specs.List.Sorted.{IsStrictlyIncreasing}
use Rattle.std.proofs.lemmas.List.Elements.{All-head, All-tail}
use Rattle.vms_world.specs.Common.{Header, ZoneSize, Event, after, own, Step, EventStep, PcpuStep, is_lane, lane_items}
use Rattle.vms_world.specs.Common.{Act, Item, Lane, EventSteps, PageSteps, PcpuSteps, HasLanes, MakesActs, acts_of}
use Rattle.vms_world.specs.Common.{is_among, lane_at, lanes_of, TableHistories, event_facts, pcpu_facts}
use Rattle.vms_core.specs.Steps as page_steps
use Rattle.vms_event_core.specs.Steps as event_steps
use Rattle.vms_pcpu_core.specs.Steps as pcpu_steps
use Rattle.vms_seats.specs.Common.{Pass}
use Rattle.vms_world.specs.declared.worlds.World.{World}
use Rattle.vms_file_order.specs.Common.{pass_of, MakeInAnyOrder}
use Rattle.vms_file_order.proofs.Common.{HasPlace-among, StandOnce-lanes, pass_of-lane_at}
use Rattle.vms_answers.specs.Common.{LaneSteps, no_steps, then_steps, NumberedAnswer, answers_of, steps_by, steps_of}
use Rattle.vms_answers.specs.Common.{LanesAnswer, merged, read_lane, taken_answer, with_told}
use Rattle.vms_answers.proofs.Common.{LaneSteps-same}
use Rattle.vms_lane.specs.Common.{GoesOnWith, acts_in}
use Rattle.vms_lane.proofs.Common.{acts-fresh, acts-later, acts_in-lane_items}
use Rattle.vms_phase.specs.Common.{HasAllSteps, AreMadeByLanes, HasMadeLane}

-- the steps that a history has of a pass
module _ {K : Type 0} where
  abbrev step_of : Event K → K
  step_of e = e.step

  steps-after : (p : ℕ) (ks : List K) (g : List (Event K))
      → map step_of (reverse (after p ks g)) ≡ map step_of (reverse g) ++ ks
  steps-after p [] g = sym (append-nil (map step_of (reverse g)))
  steps-after p (k ∷ ks) g =
      let e : Event K = record { caller = p; step = k } in
      steps-after p ks (e ∷ g)
      ∙ ap (λ es. map step_of es ++ ks) (reverse-append (e ∷ []) g)
      ∙ ap (λ js. js ++ ks) (map-append step_of (reverse g) (e ∷ []))
      ∙ append_assoc (map step_of (reverse g)) (k ∷ []) ks

  steps_by-own : (h : List (Event K)) (p : ℕ) (steps : List K) → own h p ≡ after p steps [] → steps_by h p ≡ steps
  steps_by-own h p steps are = ap (λ es. map step_of (reverse es)) are ∙ steps-after p steps []

-- what the lines of a lane answer, as the steps of its passes tell it in the histories of their phase
abbrev lane_answers : Header → World → List Item → TableHistories → Lane → List NumberedAnswer
lane_answers header w items hs lane =
    (read_lane header w lane (lane_items lane items) (steps_of (lanes_of header.layout items) hs lane)).0

-- lanes that are told the same are merged to the same, where lines have these lanes
merged-among : (items : List Item) (t u : Lane → List NumberedAnswer) (P : Lane → Type 0)
    → ((lane : Lane) → P lane → t lane ≡ u lane) → All (λ (item : Item). P item.lane) items
    → merged items t ≡ merged items u
merged-among [] t u P same each = refl
merged-among (item ∷ items) t u P same each =
    let l = item.lane in let n = item.number in
    let first : List NumberedAnswer × List NumberedAnswer = taken_answer n (u l) in
    ap (λ (answers : List NumberedAnswer).
    (taken_answer n answers).0 ++ merged items (with_told l (taken_answer n answers).1 t))
    (same l (All-head (λ (i : Item). P i.lane) item items each))
    ∙ ap (λ (more : List NumberedAnswer). first.0 ++ more)
    (merged-among items (with_told l first.1 t) (with_told l first.1 u) P
    (λ lane is. by first.1 lane (is_lane l lane) (same lane is))
    (All-tail (λ (i : Item). P i.lane) item items each))
  where
    by : (answers : List NumberedAnswer) (lane : Lane) (b : Bool) → t lane ≡ u lane
        → (if b then answers else t lane) ≡ (if b then answers else u lane)
    by answers lane true is = refl
    by answers lane false is = is

-- what a whole pass has made of acts stands in the history
module _ {F K : Type 0} (makes : Act → List (Event K) → List K → Type 0) (number : ℕ) (first last : Pass F K)
    (h : List (Event K)) (whole : HasAllSteps number first last h) where
  whole-acts : (acts : List Act) → GoesOnWith makes number acts last.seen first.seen → MakesActs makes number acts h
  whole-acts acts goes = acts-later makes number acts h last.seen whole.extends whole.all_steps
      (acts-fresh makes number acts last.seen first.seen whole.fresh.none goes)

  -- and its steps are those that the history has of it
  whole-steps : (steps : List K) → own last.seen number ≡ after number steps (own first.seen number)
      → steps_by h number ≡ steps
  whole-steps steps made =
      steps_by-own h number steps (whole.all_steps ∙ made ∙ ap (after number steps) whole.fresh.none)

module _ (header : Header) (pressure normal : ZoneSize → ℕ → ℕ → Type 0) (w : World) (items : List Item)
    (hs : TableHistories) where
  abbrev lanes : List Lane
  lanes = lanes_of header.layout items

  -- one lane
  module _ (number : ℕ) (lane : Lane) (answers : List NumberedAnswer)
      (has : HasMadeLane header pressure normal w items hs number lane answers) where
    page-acts : MakesActs (PageSteps header w.pages pressure normal lane number) number (acts_of lane items) hs.pages
    page-acts =
        let makes : ℕ → Act → List (Event Step) → List Step → Type 0 = PageSteps header w.pages pressure normal lane in
        subst (λ (acts : List Act). MakesActs (makes number) number acts hs.pages) (acts_in-lane_items lane items)
        (whole-acts (makes number) number has.first.pages has.last.pages hs.pages has.pages
        (acts_in (lane_items lane items))
        (subst (λ (p : ℕ). GoesOnWith (makes p) p (acts_in (lane_items lane items)) has.last.pages.seen
        has.first.pages.seen) has.pages.fresh.is has.lines.page_acts))

    event-acts : MakesActs (λ act h. EventSteps (event_facts header w) lane act) number (acts_of lane items) hs.events
    event-acts =
        let makes : Act → List (Event EventStep) → List EventStep → Type 0 =
        λ act h. EventSteps (event_facts header w) lane act in
        subst (λ (acts : List Act). MakesActs makes number acts hs.events) (acts_in-lane_items lane items)
        (whole-acts makes number has.first.events has.last.events hs.events has.events
        (acts_in (lane_items lane items))
        (subst (λ (p : ℕ). GoesOnWith makes p (acts_in (lane_items lane items)) has.last.events.seen
        has.first.events.seen) has.events.fresh.is has.lines.event_acts))

    pcpu-acts : MakesActs (λ act h. PcpuSteps (pcpu_facts header w) lane act) number (acts_of lane items) hs.counters
    pcpu-acts =
        let makes : Act → List (Event PcpuStep) → List PcpuStep → Type 0 =
        λ act h. PcpuSteps (pcpu_facts header w) lane act in
        subst (λ (acts : List Act). MakesActs makes number acts hs.counters) (acts_in-lane_items lane items)
        (whole-acts makes number has.first.counters has.last.counters hs.counters has.counters
        (acts_in (lane_items lane items))
        (subst (λ (p : ℕ). GoesOnWith makes p (acts_in (lane_items lane items)) has.last.counters.seen
        has.first.counters.seen) has.counters.fresh.is has.lines.pcpu_acts))

    -- its answers are those that the histories tell
    answers-read : pass_of lanes lane ≡ number → lane_answers header w items hs lane ≡ answers
    answers-read is =
        let lines = has.lines in
        let here : LaneSteps = record {
          pages = steps_by hs.pages number;
          events = steps_by hs.events number;
          counters = steps_by hs.counters number;
        } in
        let pages = whole-steps (λ act h steps. Unit {0}) number has.first.pages has.last.pages hs.pages has.pages
        lines.steps.pages (subst (λ (p : ℕ). own has.last.pages.seen p
        ≡ after p lines.steps.pages (own has.first.pages.seen p)) has.pages.fresh.is lines.pages.made.made) in
        let events = whole-steps (λ act h steps. Unit {0}) number has.first.events has.last.events hs.events has.events
        lines.steps.events (subst (λ (p : ℕ). own has.last.events.seen p
        ≡ after p lines.steps.events (own has.first.events.seen p)) has.events.fresh.is lines.events.made.made) in
        let counters = whole-steps (λ act h steps. Unit {0}) number has.first.counters has.last.counters hs.counters
        has.counters lines.steps.counters (subst (λ (p : ℕ). own has.last.counters.seen p
        ≡ after p lines.steps.counters (own has.first.counters.seen p)) has.counters.fresh.is
        lines.counters.made.made) in
        let same : here ≡ then_steps lines.steps no_steps =
        LaneSteps-same here (then_steps lines.steps no_steps) (pages ∙ sym (append-nil lines.steps.pages))
        (events ∙ sym (append-nil lines.steps.events)) (counters ∙ sym (append-nil lines.steps.counters)) in
        let by_number : steps_of lanes hs lane ≡ here =
        ap (λ (p : ℕ). let steps : LaneSteps = record {
          pages = steps_by hs.pages p;
          events = steps_by hs.events p;
          counters = steps_by hs.counters p;
        } in steps) is in
        ap (λ (steps : LaneSteps). (read_lane header w lane (lane_items lane items) steps).0) (by_number ∙ same)
        ∙ ap (λ (read : List NumberedAnswer × LaneSteps). read.0) (lines.tells no_steps)

  module _ (told : Lane → List NumberedAnswer) (made : AreMadeByLanes header pressure normal w items hs told) where
    pub MakeInAnyOrder-lanes : HasLanes page_steps.role lanes hs.pages → HasLanes event_steps.role lanes hs.events
        → HasLanes pcpu_steps.role lanes hs.counters → MakeInAnyOrder header pressure normal w items hs
    MakeInAnyOrder-lanes pages events counters = record {
      complete = made.complete;
      page_lanes = pages;
      event_lanes = events;
      pcpu_lanes = counters;
      page_lines = λ n below. page-acts (suc n) (lane_at lanes n) (told (lane_at lanes n)) (made.lanes n below);
      event_lines = λ n below. event-acts (suc n) (lane_at lanes n) (told (lane_at lanes n)) (made.lanes n below);
      pcpu_lines = λ n below. pcpu-acts (suc n) (lane_at lanes n) (told (lane_at lanes n)) (made.lanes n below);
    }

    -- each lane that has lines was told what the histories tell
    told-same : (lane : Lane) → is_among lane lanes ≡ true → lane_answers header w items hs lane ≡ told lane
    told-same lane among =
        let at = HasPlace-among lanes lane among in
        subst (λ (l : Lane). lane_answers header w items hs l ≡ told l) at.there
        (answers-read (suc at.place) (lane_at lanes at.place) (told (lane_at lanes at.place))
        (made.lanes at.place at.below)
        (pass_of-lane_at lanes at.place (StandOnce-lanes header.layout items) at.below).number)

    pub answers-merged : LanesAnswer → IsStrictlyIncreasing (map (λ (item : Item). item.number) items)
        → All (λ (item : Item). is_among item.lane lanes ≡ true) items
        → answers_of header w items hs ≡ merged items told
    answers-merged law up among =
        law header w items (steps_of lanes hs) up
        ∙ merged-among items (lane_answers header w items hs) told (λ lane. is_among lane lanes ≡ true) told-same among
