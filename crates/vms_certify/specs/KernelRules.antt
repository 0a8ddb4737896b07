-- Histories under the kernel's rules of thresholds.
use Rattle.vms_certifying.specs.HistoryRules.{HistoryRules}
use Rattle.vms_history_judge.specs.WrittenRules.{written_rules}
use Rattle.vms_own_acts.specs.Common.{IsExactly}
use Rattle.vms_world.specs.Common.{normal_threshold_of, pressure_threshold_of}

-- when lines are a history of the page counters of a trace, by thresholds that go by the kernel's formulas
abbrev pub kernel_rules : HistoryRules
kernel_rules = written_rules (IsExactly pressure_threshold_of) (IsExactly normal_threshold_of)
