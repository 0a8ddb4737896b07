-- What CPUs spend in phases, by the lines and what these answer.
use Rattle.std.specs.Prelude.{◌≡◌, ℕ, ◌+◌, if◌then◌else◌, unsigned_abs, List, ◌∷◌, map, sum_by}
use Rattle.vms_world.specs.Common.{Header, CpuId, IsCpu, is_lane, line_of, spent_on_counter, spent_on_event, volume}
use Rattle.vms_world.specs.Common.{Item, Cpu, TableHistories}
use Rattle.vms_core.specs.Totals as pages
use Rattle.vms_event_core.specs.Totals as events
use Rattle.vms_pcpu_core.specs.Totals as percpu
use Rattle.vms_answers.specs.Common.{NumberedAnswer}
use Rattle.vms_total_laws.specs.Common.{amount_added, answer_at}

-- the sizes of what a CPU's lines add to percpu counter j together, by these answers: that of a limited addition where
-- its answer is yes
abbrev pub sizes_by : CpuId → ℕ → List NumberedAnswer → List Item → ℕ
sizes_by cpu j answers items = sum_by (λ item.
    if is_lane item.lane (Cpu cpu) then unsigned_abs (amount_added j item.act (answer_at item.number answers)) else 0)
    items

-- the same of the lines of several phases, each by its own answers
abbrev pub sizes_by_all : CpuId → ℕ → List (List NumberedAnswer) → List (List Item) → ℕ
sizes_by_all cpu j (answers ∷ more) (items ∷ phases) =
    sizes_by cpu j answers items + sizes_by_all cpu j more phases
sizes_by_all cpu j _ _ = 0

-- what each CPU spends in the histories of a phase is what its lines say: on page and event counters the sum of their
-- sizes, and on a percpu counter what they add by these answers
pub record SpendAsAnswered (header : Header) (items : List Item) (answers : List NumberedAnswer) (hs : TableHistories)
    : Type 0 where
  pub pages : (c k : ℕ) → IsCpu header.layout c →
      pages.spent hs.pages c k ≡ volume (spent_on_counter k) c (map line_of items)
  pub events : (c k : ℕ) → IsCpu header.layout c →
      events.spent hs.events c k ≡ volume (spent_on_event k) c (map line_of items)
  pub counters : (cpu : CpuId) (j : ℕ) → percpu.spent hs.counters cpu.number j ≡ sizes_by cpu j answers items

-- the same of several phases, all together
pub record SpendInAll (header : Header) (phases : List (List Item)) (answers : List (List NumberedAnswer))
    (hss : List TableHistories) : Type 0 where
  pub pages : (c k : ℕ) → IsCpu header.layout c → sum_by (λ hs. pages.spent hs.pages c k) hss
      ≡ sum_by (λ items. volume (spent_on_counter k) c (map line_of items)) phases
  pub events : (c k : ℕ) → IsCpu header.layout c → sum_by (λ hs. events.spent hs.events c k) hss
      ≡ sum_by (λ items. volume (spent_on_event k) c (map line_of items)) phases
  pub counters : (cpu : CpuId) (j : ℕ) →
      sum_by (λ hs. percpu.spent hs.counters cpu.number j) hss ≡ sizes_by_all cpu j answers phases
