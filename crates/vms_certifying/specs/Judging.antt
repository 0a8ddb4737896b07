-- What a judge of written histories answers where it takes no line, and where the lines are no whole history.
use Rattle.std.specs.Prelude.{ℕ, List}
use Rattle.vms_base.specs.declared.headers.Header.{Header}
use Rattle.vms_script.specs.Common.{Segment}
use Rattle.vms_certifying.specs.HistoryRules.{HistoryRules}
use Rattle.vms_certifying.specs.declared.errors.JudgeError.{JudgeError}
use Rattle.vms_certifying.specs.declared.errors.JudgeError.TheVariants.{Fault, Memory}

-- the line is at fault. Nothing is said where memory runs out
abbrev pub IsJudgeError : HistoryRules → Header → List Segment → List (List ℕ) → List ℕ → JudgeError → Type 0
IsJudgeError rules header segments lines line (Fault cause) = rules.IsFault header segments lines line cause
IsJudgeError rules header segments lines line Memory = Unit {0}

-- the lines are a whole history of no numbers of phases and events
abbrev pub IsNeverWhole : HistoryRules → Header → List Segment → List (List ℕ) → Type 0
IsNeverWhole rules header segments lines = (phases events : ℕ) → ¬ rules.IsWhole header segments lines phases events
