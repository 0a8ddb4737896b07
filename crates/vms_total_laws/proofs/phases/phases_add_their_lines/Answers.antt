-- The sums of each table, by the laws of calls and of complete histories.
use Rattle.std.proofs.Common.{arith, length, ap}
use Rattle.std.proofs.lemmas.Int.{ints}
use Rattle.std.proofs.lemmas.List.{length-map}
use Rattle.vms_history.proofs.Common.{base_can_begin}
use Rattle.vms_world.specs.Common.{pages, page_facts, event_facts}
use Rattle.vms_total_laws.proofs.EventTotals.{counts-lines}
use Rattle.vms_total_laws.proofs.PageTotals.{pages-add_lines}
use Rattle.vms_total_laws.proofs.PcpuTotals.{counters-add_lines}
use Rattle.vms_total_laws.proofs.phases.phases_add_their_lines.Goals as goal

pub returns : goal.returns
returns g c =
    let pressure = g.R.ThresholdRules.pressure in
    let normal = g.R.ThresholdRules.normal in
    record {
      pages = λ header w items hs makes known k k_in. pages-add_lines pressure normal
          header (base_can_begin pages (page_facts header w) hs.pages makes.complete.pages.legal).layout w.pages k items
          known hs.pages makes.complete.pages makes.page_lanes makes.page_lines k_in;
      events = λ header w items hs makes known k k_in.
          let held = c.complete_histories_hold_totals.ensures (event_facts header w) hs.events k makes.complete.events
          k_in in
          omega (
            arith,
            ints,
            held.words,
            counts-lines k header (event_facts header w) items known hs.events makes.complete.events.legal
                makes.event_lanes makes.event_lines,
          );
      counters = λ header w items hs of makes known ascend j j_in. counters-add_lines header w j items known ascend hs
          makes.complete.counters makes.pcpu_lanes makes.pcpu_lines
          (omega (arith, j_in, ap length of.batches, length-map header.counters (λ decl. decl.batch)));
    }
