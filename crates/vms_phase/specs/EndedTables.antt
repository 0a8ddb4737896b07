-- When the tables of a phase may be closed.
use Rattle.std.specs.Prelude.{◌≡◌, ℕ, false}
use Rattle.vms_core.specs.Steps as page_steps
use Rattle.vms_event_core.specs.Steps as event_steps
use Rattle.vms_pcpu_core.specs.Steps as pcpu_steps
use Rattle.vms_world.specs.Common.{lives_in}
use Rattle.vms_tables.specs.Common.{TablePasses}

-- in what the main passes have seen no pass lives
pub record HaveAllEnded (mains : TablePasses) : Type 0 where
  pub pages : (q : ℕ) → lives_in page_steps.role mains.pages.seen q ≡ false
  pub events : (q : ℕ) → lives_in event_steps.role mains.events.seen q ≡ false
  pub counters : (q : ℕ) → lives_in pcpu_steps.role mains.counters.seen q ≡ false
