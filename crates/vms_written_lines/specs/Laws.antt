-- What is written is read back.
use Rattle.std.specs.Prelude.{ℕ, ◌≡◌, ◌^◌, ◌<◌, List, [], ◌∷◌, ◌++◌, length, Some, IfSome}
use Rattle.std.specs.Int.{w64}
use Rattle.std.specs.Int.RustNames.{FitsSigned}
use Rattle.vms_history.specs.Common.{IsCounter, IsCpu, IsGroup, IsItem, IsLayout, IsPlace, Shape}
use Rattle.vms_core.specs.declared.steps.Step.{Step}
use Rattle.vms_core.specs.declared.steps.Step.TheVariants.{LoadT, LoadD, Put, Miss, AddG, AddS, Take, LoadG, LoadS}
use Rattle.vms_core.specs.declared.steps.Step.TheVariants.{LoadM, LoadO, SetT, SetM, SetO, SetA, LoadA, Split, Join}
use Rattle.vms_text.specs.Common.{lines_of}
use Rattle.vms_written_lines.specs.declared.lines.WrittenLine.{WrittenLine}
use Rattle.vms_written_lines.specs.declared.lines.WrittenLine.TheVariants.{Event, Phase}
use Rattle.vms_written_lines.specs.Lines.{read_line}
use Rattle.vms_written_lines.specs.Spelling.{event_line, phase_line}
use Rattle.vms_written_lines.specs.WideSteps.{widened}

-- a step whose numbers of CPUs, places, groups, counters and items are of the layout, and whose others fit their types
abbrev pub IsStepOf : Shape → Step → Type 0
IsStepOf shape (LoadT g t a) = IsPlace shape g.number × (t < 2 ^ 32) × (a < 2 ^ 32)
IsStepOf shape (LoadD c j w) = IsCpu shape c.number × IsGroup shape j.number × (length w.values ≡ 8)
IsStepOf shape (Put k w t delta how) =
    IsCounter shape k.number × (length w.values ≡ 8) × (t < 2 ^ 32) × FitsSigned w64 delta
IsStepOf shape (Miss j w) = IsGroup shape j.number × (length w.values ≡ 8)
IsStepOf shape (AddG k a) = IsCounter shape k.number × FitsSigned w64 a
IsStepOf shape (AddS s a) = IsItem shape s.number × FitsSigned w64 a
IsStepOf shape (Take c j w) = IsCpu shape c.number × IsGroup shape j.number × (length w.values ≡ 8)
IsStepOf shape (LoadG k v) = IsCounter shape k.number × FitsSigned w64 v
IsStepOf shape (LoadS s v) = IsItem shape s.number × FitsSigned w64 v
IsStepOf shape (LoadM g m a) = IsPlace shape g.number × (m < 2 ^ 64) × (a < 2 ^ 32)
IsStepOf shape (LoadO c x) = IsCpu shape c.number
IsStepOf shape (SetT c g t) = IsCpu shape c.number × IsPlace shape g.number × (t < 2 ^ 32)
IsStepOf shape (SetM g m) = IsPlace shape g.number × (m < 2 ^ 64)
IsStepOf shape (SetO c) = IsCpu shape c.number
IsStepOf shape (SetA g a) = IsPlace shape g.number × (a < 2 ^ 32)
IsStepOf shape (LoadA c g x) = IsCpu shape c.number × IsPlace shape g.number × IfSome x (λ a. a < 2 ^ 32)
IsStepOf shape (Split q c) = (q < 2 ^ 32) × IfSome c (λ cpu. IsCpu shape cpu.number)
IsStepOf shape (Join q) = q < 2 ^ 32

-- these bytes are one line of a text, and are read as what the line says
pub record ReadsBack (shape : Shape) (bytes : List ℕ) (line : WrittenLine) : Type 0 where
  pub text : List ℕ
  pub spelled : bytes ≡ text ++ 10 ∷ []
  pub one_line : lines_of bytes ≡ text ∷ []
  pub read : read_line shape text ≡ Some line

-- what is written of an event is read back as that event, and what is written of a phase as a phase
abbrev pub EventsReadBack : Type 0
EventsReadBack = (shape : Shape) (caller : ℕ) (step : Step) → IsLayout shape → caller < 2 ^ 32 → IsStepOf shape step
    → ReadsBack shape (event_line caller (widened step)) (Event caller (widened step))

abbrev pub PhasesReadBack : Type 0
PhasesReadBack = (shape : Shape) → ReadsBack shape phase_line Phase
