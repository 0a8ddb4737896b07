-- The rules of thresholds by which a run goes.
use Rattle.std.specs.Prelude.{ℕ}
use Rattle.vms_world.specs.Common.{IsThresholdRule, ZoneSize, normal_threshold_of, pressure_threshold_of}
use Rattle.vms_replay.specs.Common.{GoesBy}

-- a normal and a pressure rule tell thresholds, and these are the kernel's
pub record AreKernelRules {N P : Type 0} (normal_accepts : N → ZoneSize → ℕ → Type 0)
    (normal_answers : N → ZoneSize → ℕ → ℕ → Type 0) (pressure_accepts : P → ZoneSize → ℕ → Type 0)
    (pressure_answers : P → ZoneSize → ℕ → ℕ → Type 0) (normal : N) (pressure : P) : Type 0 where
  pub normal_tells : IsThresholdRule (normal_accepts normal) (normal_answers normal)
  pub pressure_tells : IsThresholdRule (pressure_accepts pressure) (pressure_answers pressure)
  pub exact_normal : GoesBy normal_threshold_of (normal_answers normal)
  pub exact_pressure : GoesBy pressure_threshold_of (pressure_answers pressure)
