-- What the sums of reports tell of totals.
use Rattle.std.specs.Prelude.{◌≡◌, ℕ}
use Rattle.vms_plain_pcpu.specs.Common.{total_in}
use Rattle.vms_report.specs.Common.{pcpu_total}
use Rattle.vms_world.specs.Common.{Header, IsDeclared}
use Rattle.vms_world.specs.declared.worlds.World.{World}

-- the sum that `report counters` prints of each percpu counter is its total, which `report totals` prints
abbrev pub SumsAreTotals : Header → World → Type 0
SumsAreTotals header w = (j : ℕ) → IsDeclared header j →
    total_in w.counters w.pages.cpu j ≡ pcpu_total header w j
