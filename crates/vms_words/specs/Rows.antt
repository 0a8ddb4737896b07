-- The words that the rows of a state are read from.
use Rattle.std.specs.Prelude.{◌≡◌, ℕ, ◌+◌, ◌*◌, ◌<◌, ◌≤◌, ◌^◌, length}
use Rattle.vms_calls.specs.Common.{State, Facts, cell}
use Rattle.vms_words.specs.declared.spots.Blocks.{Blocks}
use Rattle.vms_words.specs.Shown.{shown}

-- words at so many places from a start on are there in the row of each CPU
abbrev pub AreInRows : Facts → State → Blocks → ℕ → ℕ → ℕ → Type 0
AreInRows facts s b cpus start count = (c : ℕ) → c < cpus → start + cell b.width c count ≤ length (shown facts s)

-- the words of each row are there, for so many CPUs, groups and places
pub record AreThere (facts : Facts) (s : State) (b : Blocks) (cpus groups places : ℕ) (into : State) : Type 0 where
  pub values : 0 + length into.place ≤ length (shown facts s)
  pub systems : b.systems + length into.system ≤ length (shown facts s)
  pub marks : b.marks + length into.mark ≤ length (shown facts s)
  pub groups_in : AreInRows facts s b cpus b.rows groups
  pub whole : length into.diff ≡ 8 * (cpus * groups)
  pub thresholds_in : AreInRows facts s b cpus (b.rows + b.thresholds) places
  pub one_threshold_each : length into.threshold ≡ cpus * places
  pub states_in : AreInRows facts s b cpus (b.rows + b.state) 1
  pub one_state_each : length into.cpu ≡ cpus * 1
  pub small : length (shown facts s) < 2 ^ 32
  pub entries : (length into.diff < 2 ^ 32) × (length into.threshold < 2 ^ 32) × (length into.cpu < 2 ^ 32)
  pub few : (b.rows < 2 ^ 32) × (b.thresholds < 2 ^ 32) × (b.state < 2 ^ 32)
