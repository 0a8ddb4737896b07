-- What a world adds up to are the plain sums of the phases before it, from the first world on.
use Rattle.std.proofs.Common.{◌≡◌, ℕ, List, [], ◌∷◌, ◌++◌, refl, ap, ◌∙◌, arith}
use Rattle.std.proofs.lemmas.Int.{ints}
use Rattle.vms_world.specs.Common.{Header, IsHeader, spelled_line, Offline, Flush, Report, Item, Totals, Vmstat}
use Rattle.vms_world.specs.Common.{Zoneinfo, Counters, TableHistories, left_by, IsWorldOf}
use Rattle.vms_answers.specs.Common.{answers_of}
use Rattle.vms_command.specs.Common.{line_prefix}
use Rattle.vms_report.specs.Common.{event_total, pcpu_total}
use Rattle.vms_report.proofs.Common.{totals_report-same}
use Rattle.vms_text.specs.declared.acts.Boundary.{Boundary}
use Rattle.vms_text.specs.declared.acts.Boundary.TheVariants.{Sync, Online}
use Rattle.vms_text.specs.declared.acts.Line.TheVariants as lines
use Rattle.vms_total_laws.specs.Common.{CountersMoveBy, EventsMoveBy, PagesMoveBy}
use Rattle.vms_total_laws.proofs.Common.{pcpu-started, event-started, page-started}
use Rattle.vms_world.specs.declared.worlds.World.{World}
use Rattle.vms_world.proofs.Common.{total-crossed}
use Rattle.vms_replay.specs.Common.{normal_rule, normal_zones, PastPhase, crossed, phase_of, HasPlainTotals}
use Rattle.vms_replay.specs.Common.{boundary_report, first_kept, world_report}
use Rattle.vms_replay.proofs.KernelThresholds.{Crosses-crossed}

module _ (header : Header) (valid : IsHeader header) where
  pub HasPlainTotals-first : HasPlainTotals header [] (first_kept header).world
  HasPlainTotals-first =
      let zones = normal_zones header header.layout.cpus in
      record {
        pages = λ k k_in. omega (arith, ints, page-started header zones valid k);
        events = λ k k_in. event-started header zones k;
        counters = λ j j_in. pcpu-started header zones j;
      }

  -- a boundary line moves none
  events-crossed : (b : Boundary) (w : World) (k : ℕ)
      → event_total header (crossed header b w) k ≡ event_total header w k
  events-crossed Sync w k = refl
  events-crossed (Offline c) w k = refl
  events-crossed (Online c) w k = refl
  events-crossed Flush w k = refl
  events-crossed (Report kind) w k = refl

  counters-crossed : (b : Boundary) (w : World) (j : ℕ)
      → pcpu_total header (crossed header b w) j ≡ pcpu_total header w j
  counters-crossed Sync w j = refl
  counters-crossed (Offline c) w j = refl
  counters-crossed (Online c) w j = refl
  counters-crossed Flush w j = refl
  counters-crossed (Report kind) w j = refl

  pub HasPlainTotals-crossed : (made : List PastPhase) (w : World) (b : Boundary) → IsWorldOf header w
      → HasPlainTotals header made w → HasPlainTotals header made (crossed header b w)
  HasPlainTotals-crossed made w b of has = record {
    pages = λ k k_in. total-crossed header normal_rule w (crossed header b w) of b
        (Crosses-crossed header valid b w) k k_in ∙ has.pages k k_in;
    events = λ k k_in. events-crossed b w k ∙ has.events k k_in;
    counters = λ j j_in. counters-crossed b w j ∙ has.counters j j_in;
  }

-- a phase moves each by what its lines say
pub HasPlainTotals-phase : (header : Header) (made : List PastPhase) (w : World) (items : List Item)
    (hs : TableHistories)
    → PagesMoveBy header items w (left_by header w items hs) → EventsMoveBy header items w (left_by header w items hs)
    → CountersMoveBy header (answers_of header w items hs) items w (left_by header w items hs)
    → HasPlainTotals header made w
    → HasPlainTotals header (phase_of header w items hs ∷ made) (left_by header w items hs)
HasPlainTotals-phase header made w items hs pages events counters has = record {
  pages = λ k k_in. omega (arith, ints, pages k k_in, has.pages k k_in);
  events = λ k k_in. omega (arith, ints, events k k_in, has.events k k_in);
  counters = λ j j_in. omega (arith, ints, counters j j_in, has.counters j j_in);
}

-- so what a boundary line reports of the world is what it prints after the phases
pub report-plain : (header : Header) (n : ℕ) (b : Boundary) (made : List PastPhase) (w : World)
    → HasPlainTotals header made w → world_report header n b w ≡ boundary_report header n b made w
report-plain header n (Report Totals) made w has =
    ap (λ (report : List ℕ). line_prefix n ++ spelled_line header (lines.Boundary (Report Totals)) ++ report)
    (totals_report-same header _ _ _ _ _ _ has.pages has.events has.counters)
report-plain header n (Report Vmstat) made w has = refl
report-plain header n (Report Zoneinfo) made w has = refl
report-plain header n (Report Counters) made w has = refl
report-plain header n Sync made w has = refl
report-plain header n (Offline c) made w has = refl
report-plain header n (Online c) made w has = refl
report-plain header n Flush made w has = refl
