-- What an act makes on the page counters under the kernel's rules of thresholds.
use Rattle.std.specs.Prelude.{ℕ, List}
use Rattle.vms_world.specs.Common.{Act, Header, Lane, PageSteps, State, Step, normal_threshold_of}
use Rattle.vms_world.specs.Common.{pressure_threshold_of}
use Rattle.vms_core.specs.Pages.{History}
use Rattle.vms_own_acts.specs.Common.{IsExactly}

-- the steps that an act may make by a lane's pass of this number, where it begins in a history of a phase from this
-- state
abbrev pub lane_makes : Header → State → Lane → ℕ → Act → History → List Step → Type 0
lane_makes header base = PageSteps header base (IsExactly pressure_threshold_of) (IsExactly normal_threshold_of)
