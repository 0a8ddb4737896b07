-- For other crates too: the acts that a lane's passes have made stand in every later history of their table, are those
-- of the lane's lines in the phase, and are made in the world that the tables were made from.
use Rattle.std.proofs.Common.{◌≡◌, ℕ, Bool, true, false, cond, List, [], ◌∷◌, ◌++◌, map, filter, refl, sym, ap, ◌∙◌}
use Rattle.std.proofs.Common.{subst, append_assoc}
use Rattle.vms_world.specs.Common.{Header, ZoneSize, Event, Extends, own, State, EventState, PcpuState, LaneItem}
use Rattle.vms_world.specs.Common.{is_lane, lane_item, lane_items, Act, Item, Lane, MakesActs, acts_of, act as one_act}
use Rattle.vms_file_order.proofs.Common.{is_lane-sym}
use Rattle.vms_tables.specs.declared.tables.Tables.{Tables}
use Rattle.vms_tables.specs.Common.{TablePasses, world_of}
use Rattle.vms_world.specs.declared.worlds.World.{World}
use Rattle.vms_world.specs.Lanes.MakesActs.{none as no_act}
use Rattle.vms_answers.specs.Common.{NumberedAnswer}
use Rattle.vms_lane.specs.Common.{GoesOnWith, MakeLines, acts_in}

module _ {K : Type 0} (makes : Act → List (Event K) → List K → Type 0) (p : ℕ) where
  -- a pass that had made nothing has made these acts and nothing else
  pub acts-fresh : (acts : List Act) (later earlier : List (Event K)) → own earlier p ≡ []
      → GoesOnWith makes p acts later earlier → MakesActs makes p acts later
  acts-fresh acts later earlier fresh goes = goes [] (no_act earlier fresh)

  -- they stand in every later history in which it made no more
  pub acts-later : (acts : List Act) (later earlier : List (Event K)) → Extends later earlier
      → own later p ≡ own earlier p → MakesActs makes p acts earlier → MakesActs makes p acts later
  acts-later acts later earlier extends same (no_act h none) = no_act later (same ∙ none)
  acts-later acts later earlier extends same (one_act before next h more steps so_far is_act made) =
      let parts : later ≡ (extends.0 ++ more) ++ h = extends.1 ∙ sym (append_assoc extends.0 more h) in
      subst (MakesActs makes p (before ++ next ∷ [])) (sym parts)
      (one_act before next h (extends.0 ++ more) steps so_far is_act
      (ap (λ (g : List (Event K)). own g p) (sym parts) ∙ same ∙ made))

-- the lines of a lane's script have the acts of the lane in the phase
pub acts_in-lane_items : (lane : Lane) (items : List Item) → acts_in (lane_items lane items) ≡ acts_of lane items
acts_in-lane_items lane [] = refl
acts_in-lane_items lane (item ∷ items) =
    by (is_lane lane item.lane) (is_lane item.lane lane) (is_lane-sym lane item.lane) (acts_in-lane_items lane items)
  where
    of_lane : List Item
    of_lane = filter (λ (i : Item). is_lane lane i.lane) items

    lines : List Item
    lines = filter (λ (i : Item). is_lane i.lane lane) items

    by : (a b : Bool) → a ≡ b → acts_in (map lane_item of_lane) ≡ map (λ (i : Item). i.act) lines
        → acts_in (map lane_item (cond a (item ∷ of_lane) of_lane))
        ≡ map (λ (i : Item). i.act) (cond b (item ∷ lines) lines)
    by true true same rest = ap (λ (acts : List Act). item.act ∷ acts) rest
    by false false same rest = rest
    by true false same rest = absurd cc
    by false true same rest = absurd cc

-- what passes make in the world of their tables they make in the world that the tables were made from
module _ (header : Header) (pressure normal : ZoneSize → ℕ → ℕ → Type 0) (tables : Tables) (w : World)
    (page_base : tables.pages.facts.base ≡ w.pages) (event_base : tables.events.facts.base ≡ w.events)
    (pcpu_base : tables.counters.facts.base ≡ w.counters) (lane : Lane) (items : List LaneItem)
    (new old : TablePasses) (answers : List NumberedAnswer) where
  -- without the volumes, of which no line speaks
  abbrev without : State → EventState → PcpuState → World
  without pages events counters =
      record { pages = pages; events = events; counters = counters; volumes = (world_of tables).volumes }

  abbrev In : World → Type 0
  In world = MakeLines header pressure normal world lane items new old answers

  same-world : world_of tables ≡ without w.pages w.events w.counters
  same-world = ap (λ (pages : State). without pages tables.events.facts.base tables.counters.facts.base) page_base
      ∙ ap (λ (events : EventState). without w.pages events tables.counters.facts.base) event_base
      ∙ ap (λ (counters : PcpuState). without w.pages w.events counters) pcpu_base

  pub MakeLines-world : MakeLines header pressure normal (world_of tables) lane items new old answers
      → MakeLines header pressure normal w lane items new old answers
  MakeLines-world lines =
      let m : In (without w.pages w.events w.counters) = subst In same-world lines in
      record {
        steps = m.steps;
        pages = m.pages;
        events = m.events;
        counters = m.counters;
        page_acts = m.page_acts;
        event_acts = m.event_acts;
        pcpu_acts = m.pcpu_acts;
        tells = m.tells;
      }
