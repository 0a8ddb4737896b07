-- For other crates too: complete histories lead from a world of a header to one of it.
use Rattle.std.proofs.Common.{◌≡◌, ℕ, ◌+◌, ◌^◌, ◌<◌, ◌≤◌, List, pos, ◌+ℤ◌, ◌≤ℤ◌, unsigned_abs, length, ap, ◌∙◌, arith}
use Rattle.std.proofs.lemmas.Int.{ints}
use Rattle.std.proofs.lemmas.List.{length-map}
use Rattle.vms_calls.specs.Common.{Header, Shape, counter_count, IsWithinVolumes, grown}
use Rattle.vms_history.proofs.Common.{count_below-least, count_below-same, count_below-sum, pos-count_below}
use Rattle.vms_core.specs.Bases as pages
use Rattle.vms_core.proofs.Common.{IsBase-ended, within-volumes}
use Rattle.vms_event_core.specs.Bases as events
use Rattle.vms_event_core.specs.Endings as event_ends
use Rattle.vms_event_core.specs.Common.{IsEvent, event_count, sum_of_words}
use Rattle.vms_event_core.proofs.Common.{begins-paid}
use Rattle.vms_pcpu_core.specs.Bases as percpu
use Rattle.vms_pcpu_core.specs.Endings as pcpu_ends
use Rattle.vms_pcpu_core.specs.Common.{IsPcpu, count_at, locals, spent}
use Rattle.vms_pcpu_core.proofs.Common.{totals-hold, volumes-begin_again, amounts-most}
use Rattle.vms_world.specs.declared.worlds.World.{World}
use Rattle.vms_world.specs.Common.{listed_by_cpu, FitVolumes, event_volume_after, page_volume_after, pcpu_volume_after}
use Rattle.vms_world.specs.Common.{AreComplete, TableHistories, LeavesNothing, SpendTheirLines, StayWithinVolumes}
use Rattle.vms_world.specs.Common.{left_by, AreVolumes, IsWorldOf, page_facts, event_facts, pcpu_facts, page_volume}
use Rattle.vms_world.specs.Common.{volume_in, event_volume, pcpu_volume, volumes_on}
use Rattle.vms_text.specs.declared.acts.Item.{Item}
use Rattle.vms_world.proofs.ListedReads.{get_or-listed_by_cpu, length-listed_by_cpu}

-- volumes that are given CPU by CPU
AreVolumes-listed_by_cpu : (shape : Shape) (width : ℕ) (f : ℕ → ℕ → ℕ)
    → ((c k : ℕ) → c < shape.cpus → k < width → f c k ≤ 2 ^ 48)
    → AreVolumes shape width (listed_by_cpu f shape.cpus width)
AreVolumes-listed_by_cpu shape width f most = record {
  one_each = length-listed_by_cpu f shape.cpus width;
  most = λ c k c_in k_in. rw (get_or-listed_by_cpu f shape.cpus width c k 0 c_in k_in) (most c k c_in k_in);
}

-- and what all of them add up to
volumes_on-listed_by_cpu : (shape : Shape) (width : ℕ) (f : ℕ → ℕ → ℕ) (k : ℕ) → k < width
    → volumes_on shape (λ c k. volume_in (listed_by_cpu f shape.cpus width) width c k) k ≡ volumes_on shape f k
volumes_on-listed_by_cpu shape width f k k_in =
    count_below-same (λ c. volume_in (listed_by_cpu f shape.cpus width) width c k) (λ c. f c k) shape.cpus
    (λ c c_in. get_or-listed_by_cpu f shape.cpus width c k 0 c_in k_in)

-- histories that spend what lines say, where the lines fit the volumes
pub StayWithinVolumes-lines : (header : Header) (w : World) (items : List Item) (hs : TableHistories)
    → SpendTheirLines header items hs → FitVolumes header w items → StayWithinVolumes header w hs
StayWithinVolumes-lines header w items hs spend fit = record {
  pages = λ c k c_in k_in. omega (arith, spend.pages c k c_in, fit.pages c k c_in k_in);
  events = λ c k c_in k_in. omega (arith, spend.events c k c_in, fit.events c k c_in k_in);
  counters = λ c c_in j j_in. omega (arith, spend.counters c j c_in, fit.counters c j c_in j_in);
}

module _ (header : Header) (w : World) (items : List Item) (hs : TableHistories) (of : IsWorldOf header w)
    (complete : AreComplete header w hs) (spend : SpendTheirLines header items hs)
    (fit : FitVolumes header w items) (nothing : LeavesNothing header (left_by header w items hs)) where
  abbrev layout : Shape
  layout = header.layout

  abbrev next : World
  next = left_by header w items hs

  volumes : StayWithinVolumes header w hs
  volumes = StayWithinVolumes-lines header w items hs spend fit

  pages-begin : pages.IsBase (page_facts header next)
  pages-begin = IsBase-ended (page_facts header w) hs.pages complete.pages (page_volume header w) of.pages_within
      volumes.pages

  pages-within_totals : IsWithinVolumes layout (page_volume header next) next.pages
  pages-within_totals =
      let within = within-volumes (page_facts header w) hs.pages complete.pages (page_volume header w) of.pages_within
      volumes.pages in
      record {
        totals = λ k k_in. omega (
          arith,
          within.totals k k_in,
          volumes_on-listed_by_cpu layout (counter_count layout) (page_volume_after header w items) k k_in,
          count_below-same (λ c. grown (page_volume header w) hs.pages c k)
              (λ c. page_volume_after header w items c k) layout.cpus
              (λ c c_in. omega (arith, spend.pages c k c_in)),
        );
        systems = within.systems;
      }

  event-paid : event_ends.IsPaid (event_facts header w) 0 (event_volume w)
  event-paid = record {
    small = omega arith;
    words = λ k k_in. omega (
      arith,
      ints,
      of.events_within k k_in,
      pos-count_below (λ c. event_volume w c k) layout.cpus,
    );
  }

  abbrev event-ends : event_ends.BeginsAgain (event_facts header w) hs.events
      × event_ends.IsPaid (event_ends.ending (event_facts header w) hs.events) 0
      (event_ends.spent_by_now (event_volume w) hs.events)
  event-ends = begins-paid (event_facts header w) hs.events complete.events 0 (event_volume w) event-paid volumes.events

  events-begin : events.IsBase (event_facts header next)
  events-begin = record {
    layout = of.event_base.layout;
    one_state_each = pages-begin.opening.shaped.cpu;
    shaped = event-ends.0.base.shaped;
    some_online = pages-begin.opening.some_online;
    absent = λ c k c_in gone k_in. nothing.events c k c_in gone k_in;
    sums = event-ends.0.base.sums;
  }

  event-totals : (k : ℕ) → IsEvent k
      → sum_of_words layout next.events k ≤ℤ pos (volumes_on layout (event_volume next) k)
  event-totals k k_in = omega (
    arith,
    ints,
    event-ends.1.words k k_in,
    pos-count_below (λ c. event_ends.spent_by_now (event_volume w) hs.events c k) layout.cpus,
    count_below-same (λ c. event_ends.spent_by_now (event_volume w) hs.events c k)
        (λ c. event_volume_after w items c k) layout.cpus (λ c c_in. omega (arith, spend.events c k c_in)),
    volumes_on-listed_by_cpu layout event_count (event_volume_after w items) k k_in,
  )

  decls-long : length w.counters.batch ≡ length header.counters
  decls-long = ap length of.batches ∙ length-map header.counters (λ decl. decl.batch)

  pcpu-paid : pcpu_ends.IsPaid (pcpu_facts header w) (pcpu_volume header w)
  pcpu-paid j j_in = omega (
    arith,
    ints,
    of.pcpu_within j (omega (arith, decls-long)),
    pos-count_below (λ c. pcpu_volume header w c j) layout.cpus,
  )

  abbrev pcpu-ends : pcpu_ends.BeginsAgain (pcpu_facts header w) hs.counters
  pcpu-ends = (volumes-begin_again (pcpu_facts header w) hs.counters (pcpu_volume header w) complete.counters pcpu-paid
      volumes.counters).0

  counters-begin : percpu.IsBase (pcpu_facts header next)
  counters-begin = record {
    layout = of.pcpu_base.layout;
    lengths = record {
      one_state_each = pages-begin.opening.shaped.cpu;
      one_count_each = pcpu-ends.base.lengths.one_count_each;
      one_local_each = pcpu-ends.base.lengths.one_local_each;
    };
    some_online = pages-begin.opening.some_online;
    counters = λ j j_in.
        let was = pcpu-ends.base.counters j j_in in
        record { batch_least = was.batch_least; batch_most = was.batch_most; count = was.count };
    locals = λ c c_in j j_in.
        let was = pcpu-ends.base.locals c c_in j j_in in
        record { within = was.within; absent = λ gone. nothing.counters c j c_in gone j_in };
  }

  pcpu-totals : (j : ℕ) → j < length header.counters
      → unsigned_abs (count_at next.counters j +ℤ locals layout next.counters j)
      ≤ volumes_on layout (pcpu_volume header next) j
  pcpu-totals j j_in =
      let known : IsPcpu (pcpu_facts header w) j = omega (arith, decls-long) in
      omega (
        arith,
        ints,
        (totals-hold (pcpu_facts header w) hs.counters j complete.counters known).numbers,
        of.pcpu_within j j_in,
        amounts-most (pcpu_facts header w) hs.counters j complete.counters.legal known,
        pos-count_below (λ c. spent hs.counters c j) layout.cpus,
        count_below-sum (λ c. pcpu_volume header w c j) (λ c. spent hs.counters c j) layout.cpus,
        count_below-least (λ c. pcpu_volume header w c j + spent hs.counters c j)
            (λ c. pcpu_volume_after header w items c j) layout.cpus
            (λ c c_in. omega (arith, spend.counters c j c_in)),
        volumes_on-listed_by_cpu layout (length header.counters) (pcpu_volume_after header w items) j j_in,
      )

  pub IsWorldOf-left_by : IsWorldOf header next
  IsWorldOf-left_by = record {
    page_base = pages-begin;
    event_base = events-begin;
    pcpu_base = counters-begin;
    batches = pcpu-ends.batches ∙ of.batches;
    page_volumes = AreVolumes-listed_by_cpu layout (counter_count layout) (page_volume_after header w items)
        fit.pages;
    event_volumes = AreVolumes-listed_by_cpu layout event_count (event_volume_after w items) fit.events;
    pcpu_volumes = AreVolumes-listed_by_cpu layout (length header.counters) (pcpu_volume_after header w items)
        (λ c j c_in j_in. fit.counters c j c_in (omega (arith, decls-long)));
    pages_within = pages-within_totals;
    events_within = event-totals;
    pcpu_within = pcpu-totals;
  }
