-- For other crates too: a line of the control lane's own goes on from an open phase, and tells its answer.
use Rattle.std.proofs.Common.{◌≡◌, ℕ, false, List, [], ◌∷◌, ◌++◌, length, Option, Some, None, refl, sym, ap, subst, ◌∙◌}
use Rattle.std.proofs.lemmas.List.{length-map}
use Rattle.vms_world.specs.Common.{Header, CpuId, PlaceId, ZoneSize, IsLayout, after, own, State, Facts, Step, SetO}
use Rattle.vms_world.specs.Common.{pages, EventState, events, percpu, LockedState, CarriesAsBefore, HasWon, facts_of}
use Rattle.vms_world.specs.Common.{HasMade, Buries, ByNormal, ByPressure, Choice, RatesNode, SetsNormal, SetsPressure}
use Rattle.vms_world.specs.Common.{Balance, IsTurn, Act, Kswapd, Normal, Pressure, Item, Lane, Control, EventSteps}
use Rattle.vms_world.specs.Common.{PageSteps, PcpuSteps, TableHistories, IsWorldOf, event_facts, page_facts, pcpu_facts}
use Rattle.vms_history.proofs.Common.{own-after, base_can_begin}
use Rattle.vms_core.specs.Own.{CarriesNothing}
use Rattle.vms_core.specs.Pages.{History}
use Rattle.vms_pcpu_core.specs.States.{counters_of}
use Rattle.vms_calls.proofs.Common.{Each, OfFolds, OfLooks, OfRatings, each-append, fold-each, node-each, refresh-each}
use Rattle.vms_calls.proofs.Common.{turn-each, IsStill, burial-leaves, ratings-still, still-leaves}
use Rattle.vms_pcpu_core.proofs.Common.{fold-call}
use Rattle.vms_text.specs.declared.acts.Act.TheVariants.{Dead}
use Rattle.vms_world.specs.declared.worlds.World.{World}
use Rattle.vms_file_order.specs.Common.{GoesOnWithLine, pass_of, TableStates, FindsLockFree, MeetsNobody, event_makes}
use Rattle.vms_file_order.specs.Common.{pcpu_makes}
use Rattle.vms_answers.specs.declared.answers.Answer.{Answer}
use Rattle.vms_answers.specs.Common.{LaneSteps, Tell}
use Rattle.vms_plain_control.specs.Common.{ControlCall, ControlMakes, MakesUnladenCall, KnowsPeaks}
use Rattle.vms_plain_lines.specs.Common.{GoesOnKnowing, StandsNext}
use Rattle.vms_answers.proofs.Common.{TellsEventCall, Tell-burial}
use Rattle.vms_calls.specs.declared.page_calls.PageAnswer.TheVariants.{Done}
use Rattle.vms_plain_lines.proofs.ControlPass.{CarriesNothing-open, Controls-open, HasMade-row}
use Rattle.vms_plain_control.proofs.CallKinds.{All-each, folds-won, ratings-won}

burial-won : (facts : Facts) (normal : ZoneSize → ℕ → ℕ → Type 0) (c : CpuId) (p : ℕ) (h : History) (steps : List Step)
    → Buries facts normal c p h steps → Each HasWon steps
burial-won facts normal c p h steps buries = subst (Each HasWon) (sym buries.in_order)
    (each-append HasWon buries.fold (SetO c ∷ buries.refresh)
    (fold-each HasWon folds-won facts.layout false c buries.fold buries.folds) (
      tt,
      refresh-each HasWon ratings-won facts normal p (after p (buries.fold ++ (SetO c ∷ [])) h) buries.refresh
          buries.refreshes,
    ))

-- what holds of each line of the control lane with an act holds of a line that is one
by-item : (P : Item → Type 0) (item : Item) (a : Act) → item.lane ≡ Control → item.act ≡ a
    → P (record { number = item.number; lane = Control; act = a }) → P item
by-item P item a lane act holds =
    subst (λ (l : Lane). P (record { number = item.number; lane = l; act = item.act })) (sym lane)
    (subst (λ (b : Act). P (record { number = item.number; lane = Control; act = b })) (sym act) holds)

-- a world of the header has the header's percpu counters
pub counters_of-world : (header : Header) (w : World) → IsWorldOf header w
    → counters_of w.counters ≡ length header.counters
counters_of-world header w of =
    ap (λ (batches : List ℕ). length batches) of.batches ∙ length-map header.counters (λ decl. decl.batch)

module _ (pressure normal : ZoneSize → ℕ → ℕ → Type 0) (header : Header) (w : World) (lanes : List Lane)
    (items : List Item) (hs : TableHistories) (now : TableStates) where
  abbrev facts : Facts
  facts = page_facts header w

  abbrev p : ℕ
  p = pass_of lanes Control

  abbrev of_control : ℕ → Act → Item
  of_control number a = record { number = number; lane = Control; act = a }

  -- an act of the control lane on the page counters: the pass makes the steps of a call, and the peaks are known again
  record ControlPart (IsCall : ControlCall) (item : Item) (next : State) (known : List ℕ) : Type 0 where
    pub part : GoesOnWithLine pages (PageSteps header w.pages pressure normal) HasWon facts lanes item hs.pages next
    pub knows : KnowsPeaks facts (after p part.steps hs.pages) known
    pub call : IsCall w.pages p hs.pages part.steps
    pub made : HasMade facts (after p part.steps hs.pages) hs.pages p part.steps

  module _ (number : ℕ) (a : Act) (IsCall : ControlCall) where
    abbrev item : Item
    item = of_control number a

    module _ (stands : StandsNext header pressure normal w lanes items hs now item)
        (makes : (steps : List Step) → IsCall w.pages p hs.pages steps
        → PageSteps header w.pages pressure normal Control p a hs.pages steps)
        (won : (steps : List Step) → IsCall w.pages p hs.pages steps → Each HasWon steps)
        (leaves : (steps : List Step) → IsCall w.pages p hs.pages steps
        → CarriesAsBefore header.layout p steps (own hs.pages p))
        (peaks : List ℕ) (knows : KnowsPeaks facts hs.pages peaks) (next : State) (known : List ℕ)
        (call : MakesUnladenCall header IsCall now.pages peaks next known) where
      control-part : ControlPart IsCall item next known
      control-part =
          let controls = Controls-open pressure normal header w lanes items hs now stands.opened stands.among peaks
          knows in
          let unladen = CarriesNothing-open pressure normal header w lanes items hs now stands.opened stands.among in
          let made = call w.pages hs.pages p controls unladen in
          let left = leaves made.0 made.1 in
          record {
            part = record {
              steps = made.0;
              making = makes made.0 made.1;
              alone = All-each HasWon made.0 (won made.0 made.1);
              goes_on = made.3;
              may_end = subst (CarriesNothing header.layout) (sym (own-after p made.0 hs.pages)) (record {
                counters = λ k. left.counters k ∙ unladen.counters k;
                items = λ i. left.items i ∙ unladen.items i;
              });
            };
            knows = made.4;
            call = made.1;
            made = HasMade-row facts hs.pages p controls.control made.0 next made.3;
          }

  module _ (item : Item) (lane : item.lane ≡ Control)
      (stands : StandsNext header pressure normal w lanes items hs now item) (peaks : List ℕ)
      (knows : KnowsPeaks facts hs.pages peaks) (next : State) (known : List ℕ) where
    -- a burial, from its parts on the event counters and on the percpu counters
    pub GoesOnKnowing-burial : TellsEventCall → (c : CpuId)
        → item.act ≡ Dead c
        → MakesUnladenCall header (λ base q h steps. Buries (facts_of header base) normal c q h steps) now.pages peaks
        next known → (next_events : EventState) (next_counters : LockedState)
        → GoesOnWithLine events (event_makes (event_facts header w)) MeetsNobody (event_facts header w) lanes item
        hs.events next_events
        → GoesOnWithLine percpu (pcpu_makes (pcpu_facts header w)) FindsLockFree (pcpu_facts header w) lanes item
        hs.counters next_counters
        → GoesOnKnowing header pressure normal w lanes item hs
        (record { pages = next; events = next_events; counters = next_counters }) known None
    GoesOnKnowing-burial reads c act makes next_events next_counters on_events on_counters = by-item
        (λ (i : Item). StandsNext header pressure normal w lanes items hs now i
        → GoesOnWithLine events (event_makes (event_facts header w)) MeetsNobody (event_facts header w) lanes i
        hs.events next_events
        → GoesOnWithLine percpu (pcpu_makes (pcpu_facts header w)) FindsLockFree (pcpu_facts header w) lanes i
        hs.counters next_counters
        → GoesOnKnowing header pressure normal w lanes i hs
        (record { pages = next; events = next_events; counters = next_counters }) known None)
        item (Dead c) lane act by stands on_events on_counters
      where
        layout : IsLayout header.layout
        layout = (base_can_begin pages facts hs.pages stands.opened.pages.legal).layout

        by : StandsNext header pressure normal w lanes items hs now (of_control item.number (Dead c))
            → GoesOnWithLine events (event_makes (event_facts header w)) MeetsNobody (event_facts header w) lanes
            (of_control item.number (Dead c)) hs.events next_events
            → GoesOnWithLine percpu (pcpu_makes (pcpu_facts header w)) FindsLockFree (pcpu_facts header w) lanes
            (of_control item.number (Dead c)) hs.counters next_counters
            → GoesOnKnowing header pressure normal w lanes (of_control item.number (Dead c)) hs
            (record { pages = next; events = next_events; counters = next_counters }) known None
        by here in_events in_counters =
            let on_pages = control-part item.number (Dead c)
            (λ base q h steps. Buries (facts_of header base) normal c q h steps) here (λ steps call. (Done, call))
            (λ steps call. burial-won facts normal c p hs.pages steps call)
            (λ steps call. (burial-leaves facts normal layout c p hs.pages steps call (own hs.pages p)).carries)
            peaks knows next known makes in
            record {
              line = record { pages = on_pages.part; events = in_events; counters = in_counters };
              known = on_pages.knows;
              tells = Tell-burial header w pressure normal p (after p on_pages.part.steps hs.pages) hs.pages (record {
                pages = on_pages.part.steps;
                events = in_events.steps;
                counters = in_counters.steps;
              }) on_pages.made reads c on_pages.call in_events.making
                  (fold-call (pcpu_facts header w) c in_counters.steps in_counters.making);
            }
