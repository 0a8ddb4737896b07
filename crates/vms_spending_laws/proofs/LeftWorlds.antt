-- Complete histories lead from a world of a header to one of it, with any volumes that cover what CPUs have spent.
use Rattle.std.proofs.Common.{◌≡◌, ℕ, ◌+◌, ◌<◌, ◌≤◌, pos, ◌+ℤ◌, ◌≤ℤ◌, unsigned_abs, length, ap, ◌∙◌, arith}
use Rattle.std.proofs.lemmas.Int.{ints}
use Rattle.std.proofs.lemmas.List.{length-map}
use Rattle.vms_world.specs.Common.{Header, Shape, counter_count, most_volume, IsWithinVolumes, grown, IsEvent}
use Rattle.vms_world.specs.Common.{event_count, sum_of_words, IsPcpu, count_at, locals, AreComplete, TableHistories}
use Rattle.vms_world.specs.Common.{LeavesNothing, StayWithinVolumes, IsWorldOf, page_facts, event_facts, pcpu_facts}
use Rattle.vms_world.specs.Common.{page_volume, volume_in, event_volume, pcpu_volume, volumes_on, AreVolumes}
use Rattle.vms_world.specs.Common.{listed_by_cpu}
use Rattle.vms_history.proofs.Common.{count_below-least, count_below-sum, pos-count_below}
use Rattle.vms_core.specs.Bases as pages
use Rattle.vms_core.proofs.Common.{IsBase-ended, within-volumes}
use Rattle.vms_event_core.specs.Bases as events
use Rattle.vms_event_core.specs.Endings as event_ends
use Rattle.vms_event_core.proofs.Common.{begins-paid}
use Rattle.vms_pcpu_core.specs.Bases as percpu
use Rattle.vms_pcpu_core.specs.Endings as pcpu_ends
use Rattle.vms_pcpu_core.specs.Totals.{spent}
use Rattle.vms_pcpu_core.proofs.Common.{totals-hold, volumes-begin_again, amounts-most}
use Rattle.vms_world.specs.declared.worlds.Volumes.{Volumes}
use Rattle.vms_world.specs.declared.worlds.World.{World}
use Rattle.vms_world.proofs.Common.{get_or-listed_by_cpu}
use Rattle.vms_world.proofs.ListedReads.{length-listed_by_cpu}
use Rattle.vms_spending_laws.specs.Common.{CoverSpending, left_with, spent_volumes}

module _ (header : Header) (w : World) (of : IsWorldOf header w) where
  abbrev layout : Shape
  layout = header.layout

  decls-long : length w.counters.batch ≡ length header.counters
  decls-long = ap length of.batches ∙ length-map header.counters (λ decl. decl.batch)

  module _ (hs : TableHistories) (complete : AreComplete header w hs) (v : Volumes)
      (cover : CoverSpending header w hs v) (nothing : LeavesNothing header (left_with header w hs v)) where
    abbrev next : World
    next = left_with header w hs v

    volumes : StayWithinVolumes header w hs
    volumes = record {
      pages = λ c k c_in k_in. omega (arith, cover.on_pages c k c_in k_in, cover.pages.most c k c_in k_in);
      events = λ c k c_in k_in. omega (arith, cover.on_events c k c_in k_in, cover.events.most c k c_in k_in);
      counters = λ c c_in j j_in. omega (
        arith,
        cover.on_counters c j c_in j_in,
        cover.counters.most c j c_in (omega (arith, j_in, decls-long)),
      );
    }

    pages-begin : pages.IsBase (page_facts header next)
    pages-begin = IsBase-ended (page_facts header w) hs.pages complete.pages (page_volume header w) of.pages_within
        volumes.pages

    pages-within_totals : IsWithinVolumes layout (page_volume header next) next.pages
    pages-within_totals =
        let within = within-volumes (page_facts header w) hs.pages complete.pages (page_volume header w)
        of.pages_within volumes.pages in
        record {
          totals = λ k k_in. omega (
            arith,
            within.totals k k_in,
            count_below-least (λ c. grown (page_volume header w) hs.pages c k)
                (λ c. volume_in v.pages (counter_count layout) c k) layout.cpus
                (λ c c_in. cover.on_pages c k c_in k_in),
          );
          systems = within.systems;
        }

    event-paid : event_ends.IsPaid (event_facts header w) 0 (event_volume w)
    event-paid = record {
      small = omega arith;
      words = λ k k_in. omega (
        arith,
        ints,
        of.events_within k k_in,
        pos-count_below (λ c. event_volume w c k) layout.cpus,
      );
    }

    abbrev event-ends : event_ends.BeginsAgain (event_facts header w) hs.events
        × event_ends.IsPaid (event_ends.ending (event_facts header w) hs.events) 0
        (event_ends.spent_by_now (event_volume w) hs.events)
    event-ends =
        begins-paid (event_facts header w) hs.events complete.events 0 (event_volume w) event-paid volumes.events

    events-begin : events.IsBase (event_facts header next)
    events-begin = record {
      layout = of.event_base.layout;
      one_state_each = pages-begin.opening.shaped.cpu;
      shaped = event-ends.0.base.shaped;
      some_online = pages-begin.opening.some_online;
      absent = λ c k c_in gone k_in. nothing.events c k c_in gone k_in;
      sums = event-ends.0.base.sums;
    }

    event-totals : (k : ℕ) → IsEvent k
        → sum_of_words layout next.events k ≤ℤ pos (volumes_on layout (event_volume next) k)
    event-totals k k_in = omega (
      arith,
      ints,
      event-ends.1.words k k_in,
      pos-count_below (λ c. event_ends.spent_by_now (event_volume w) hs.events c k) layout.cpus,
      count_below-least (λ c. event_ends.spent_by_now (event_volume w) hs.events c k)
          (λ c. volume_in v.events event_count c k) layout.cpus (λ c c_in. cover.on_events c k c_in k_in),
    )

    pcpu-paid : pcpu_ends.IsPaid (pcpu_facts header w) (pcpu_volume header w)
    pcpu-paid j j_in = omega (
      arith,
      ints,
      of.pcpu_within j (omega (arith, decls-long)),
      pos-count_below (λ c. pcpu_volume header w c j) layout.cpus,
    )

    abbrev pcpu-ends : pcpu_ends.BeginsAgain (pcpu_facts header w) hs.counters
    pcpu-ends = (volumes-begin_again (pcpu_facts header w) hs.counters (pcpu_volume header w) complete.counters
        pcpu-paid volumes.counters).0

    counters-begin : percpu.IsBase (pcpu_facts header next)
    counters-begin = record {
      layout = of.pcpu_base.layout;
      lengths = record {
        one_state_each = pages-begin.opening.shaped.cpu;
        one_count_each = pcpu-ends.base.lengths.one_count_each;
        one_local_each = pcpu-ends.base.lengths.one_local_each;
      };
      some_online = pages-begin.opening.some_online;
      counters = λ j j_in.
          let was = pcpu-ends.base.counters j j_in in
          record { batch_least = was.batch_least; batch_most = was.batch_most; count = was.count };
      locals = λ c c_in j j_in.
          let was = pcpu-ends.base.locals c c_in j j_in in
          record { within = was.within; absent = λ gone. nothing.counters c j c_in gone j_in };
    }

    pcpu-totals : (j : ℕ) → j < length header.counters
        → unsigned_abs (count_at next.counters j +ℤ locals layout next.counters j)
        ≤ volumes_on layout (pcpu_volume header next) j
    pcpu-totals j j_in =
        let known : IsPcpu (pcpu_facts header w) j = omega (arith, decls-long) in
        omega (
          arith,
          ints,
          (totals-hold (pcpu_facts header w) hs.counters j complete.counters known).numbers,
          of.pcpu_within j j_in,
          amounts-most (pcpu_facts header w) hs.counters j complete.counters.legal known,
          pos-count_below (λ c. spent hs.counters c j) layout.cpus,
          count_below-sum (λ c. pcpu_volume header w c j) (λ c. spent hs.counters c j) layout.cpus,
          count_below-least (λ c. pcpu_volume header w c j + spent hs.counters c j)
              (λ c. volume_in v.counters (length header.counters) c j) layout.cpus
              (λ c c_in. cover.on_counters c j c_in known),
        )

    pub IsWorldOf-left_with : IsWorldOf header next
    IsWorldOf-left_with = record {
      page_base = pages-begin;
      event_base = events-begin;
      pcpu_base = counters-begin;
      batches = pcpu-ends.batches ∙ of.batches;
      page_volumes = cover.pages;
      event_volumes = cover.events;
      pcpu_volumes = cover.counters;
      pages_within = pages-within_totals;
      events_within = event-totals;
      pcpu_within = pcpu-totals;
    }

  -- what the CPUs have spent covers itself
  AreVolumes-spent : (width : ℕ) (f : ℕ → ℕ → ℕ) → ((c k : ℕ) → c < layout.cpus → k < width → f c k ≤ most_volume)
      → AreVolumes layout width (listed_by_cpu f layout.cpus width)
  AreVolumes-spent width f most = record {
    one_each = length-listed_by_cpu f layout.cpus width;
    most = λ c k c_in k_in. omega (
      arith,
      most c k c_in k_in,
      get_or-listed_by_cpu f layout.cpus width c k 0 c_in k_in,
    );
  }

  pub CoverSpending-spent : (hs : TableHistories) → StayWithinVolumes header w hs
      → CoverSpending header w hs (spent_volumes header w hs)
  CoverSpending-spent hs within =
      let on_pages : ℕ → ℕ → ℕ = grown (page_volume header w) hs.pages in
      let on_events : ℕ → ℕ → ℕ = event_ends.spent_by_now (event_volume w) hs.events in
      let on_counters : ℕ → ℕ → ℕ = pcpu_ends.spent_by_now (pcpu_volume header w) hs.counters in
      record {
        pages = AreVolumes-spent (counter_count layout) on_pages within.pages;
        events = AreVolumes-spent event_count on_events within.events;
        counters = AreVolumes-spent (length header.counters) on_counters
            (λ c j c_in j_in. within.counters c c_in j (omega (arith, j_in, decls-long)));
        on_pages = λ c k c_in k_in. omega (
          arith,
          get_or-listed_by_cpu on_pages layout.cpus (counter_count layout) c k 0 c_in k_in,
        );
        on_events = λ c k c_in k_in. omega (
          arith,
          get_or-listed_by_cpu on_events layout.cpus event_count c k 0 c_in k_in,
        );
        on_counters = λ c j c_in j_in. omega (
          arith,
          get_or-listed_by_cpu on_counters layout.cpus (length header.counters) c j 0 c_in
              (omega (arith, j_in, decls-long)),
        );
      }
