-- What CPUs spend in all phases on a way through the segments of a text.
use Rattle.std.proofs.Common.{ℕ, List, [], ◌∷◌, arith}
use Rattle.std.specs.Prelude.{All, map}
use Rattle.std.proofs.lemmas.List.Elements.{All-head, All-tail}
use Rattle.std.proofs.lemmas.List.Sums.{sum_by-cons}
use Rattle.vms_world.specs.Common.{Header, ZoneSize, line_of, spent_on_counter, spent_on_event, volume, Item, Segment}
use Rattle.vms_world.specs.Common.{Phase, Between, SegmentsLead, TableHistories}
use Rattle.vms_core.specs.Totals as pages
use Rattle.vms_event_core.specs.Totals as events
use Rattle.vms_pcpu_core.specs.Totals as percpu
use Rattle.vms_world.specs.declared.worlds.World.{World}
use Rattle.vms_file_order.specs.Common.{MakeInAnyOrder}
use Rattle.vms_answers.specs.Common.{answers_of}
use Rattle.vms_total_laws.specs.Common.{AreLinesOf, AreNumbered, answers_on, phases_among}
use Rattle.vms_total_laws.proofs.Common.{MakeInAnyOrder-led}
use Rattle.vms_spending_laws.specs.Common.{SpendAsAnswered, SpendInAll}

module _ (header : Header) (pressure normal : ZoneSize → ℕ → ℕ → Type 0)
    (phase : (w : World) (items : List Item) (hs : TableHistories)
    → MakeInAnyOrder header pressure normal w items hs → AreLinesOf header items → AreNumbered items
    → SpendAsAnswered header items (answers_of header w items hs) hs) where
  pub SpendInAll-led : (segments : List Segment) (hss : List TableHistories) (w last : World)
      → All (AreLinesOf header) (phases_among segments) → All AreNumbered (phases_among segments)
      → (through : SegmentsLead header pressure normal segments hss w last)
      → SpendInAll header (phases_among segments) (answers_on header pressure normal segments hss w last through) hss
  SpendInAll-led [] [] w last known ascend same =
      record { pages = λ c k known. omega arith; events = λ c k known. omega arith; counters = λ cpu j. omega arith }
  SpendInAll-led [] (hs ∷ more) w last known ascend through = absurd through
  SpendInAll-led (Phase items ∷ segments) [] w last known ascend through = absurd through
  SpendInAll-led (Phase items ∷ segments) (hs ∷ more) w last known ascend (next, is, through) =
      let one = phase w items hs (MakeInAnyOrder-led header pressure normal w items hs next is)
      (All-head (AreLinesOf header) items (phases_among segments) known)
      (All-head AreNumbered items (phases_among segments) ascend) in
      let rest = SpendInAll-led segments more next last
      (All-tail (AreLinesOf header) items (phases_among segments) known)
      (All-tail AreNumbered items (phases_among segments) ascend) through in
      record {
        pages = λ c k c_in. omega (
          arith,
          one.pages c k c_in,
          rest.pages c k c_in,
          sum_by-cons (λ (x : TableHistories). pages.spent x.pages c k) hs more,
          sum_by-cons (λ (x : List Item). volume (spent_on_counter k) c (map line_of x)) items (phases_among segments),
        );
        events = λ c k c_in. omega (
          arith,
          one.events c k c_in,
          rest.events c k c_in,
          sum_by-cons (λ (x : TableHistories). events.spent x.events c k) hs more,
          sum_by-cons (λ (x : List Item). volume (spent_on_event k) c (map line_of x)) items (phases_among segments),
        );
        counters = λ cpu j. omega (
          arith,
          one.counters cpu j,
          rest.counters cpu j,
          sum_by-cons (λ (x : TableHistories). percpu.spent x.counters cpu.number j) hs more,
        );
      }
  SpendInAll-led (Between number b ∷ segments) hss w last known ascend (next, may, crosses, through) =
      SpendInAll-led segments hss next last known ascend through
