-- What a report of the totals prints: the plain sums of the lines of the phases before it.
use Rattle.std.specs.Prelude.{◌≡◌, ℕ, ℤ, pos, List, map}
use Rattle.vms_world.specs.Common.{Header, IsCounter, IsEvent, IsDeclared, plain_total, Item}
use Rattle.vms_report.specs.Common.{totals_report, event_total, page_total, pcpu_total}
use Rattle.vms_total_laws.specs.Common.{adds_by_all, counts_by_all}
use Rattle.vms_world.specs.declared.worlds.World.{World}
use Rattle.vms_replay.specs.MadePhases.{PastPhase, answers_in}

-- the lines of these phases
abbrev pub lines_in : List PastPhase → List (List Item)
lines_in made = map (λ phase. phase.items) made

-- the amounts that percpu counter j was given in them, of limited additions where the answer is yes
abbrev pub amounts_in : Header → List PastPhase → ℕ → ℤ
amounts_in header made j = adds_by_all j (map (answers_in header) made) (lines_in made)

-- the report: of each page counter its base and all deltas, of each event all counts, and of each percpu counter all
-- amounts
abbrev pub plain_report : Header → List PastPhase → List ℕ
plain_report header made = totals_report header (plain_total header (lines_in made))
    (λ k. pos (counts_by_all k (lines_in made))) (amounts_in header made)

-- what a world adds up to are these sums
pub record HasPlainTotals (header : Header) (made : List PastPhase) (w : World) : Type 0 where
  pub pages : (k : ℕ) → IsCounter header.layout k → page_total header w k ≡ plain_total header (lines_in made) k
  pub events : (k : ℕ) → IsEvent k → event_total header w k ≡ pos (counts_by_all k (lines_in made))
  pub counters : (j : ℕ) → IsDeclared header j → pcpu_total header w j ≡ amounts_in header made j
