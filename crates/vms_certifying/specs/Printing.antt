-- The one line that the command writes.
use Rattle.std.specs.Prelude.{ℕ, List, [], ◌∷◌, ◌++◌, codes, decimal}
use Rattle.vms_command.specs.Common.{line_prefix}
use Rattle.vms_phase_checks.specs.declared.faults.EventCause.{EventCause}
use Rattle.vms_phase_checks.specs.declared.faults.EventCause.TheVariants.{BadEvent, Illegal, Incomplete, NotInScript}

abbrev pub cause_name : EventCause → List ℕ
cause_name BadEvent = codes "BadEvent"
cause_name Illegal = codes "Illegal"
cause_name NotInScript = codes "NotInScript"
cause_name Incomplete = codes "Incomplete"

-- `line N: CAUSE`
abbrev pub fault_line : ℕ → EventCause → List ℕ
fault_line n cause = line_prefix n ++ cause_name cause ++ 10 ∷ []

-- `certified phases P events E`
abbrev pub certified_line : ℕ → ℕ → List ℕ
certified_line phases events =
    codes "certified phases " ++ decimal phases ++ codes " events " ++ decimal events ++ 10 ∷ []
