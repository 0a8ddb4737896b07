-- What is kept of the lines of a history.
use Rattle.std.specs.Prelude.{◌≡◌, ℕ, ◌+◌, List, length}
use Rattle.vms_base.specs.Common.{IsHeader}
use Rattle.vms_base.specs.declared.headers.Header.{Header}
use Rattle.vms_script.specs.Common.{Segment}
use Rattle.vms_certifying.specs.declared.written_parts.WrittenPart.{WrittenPart}
use Rattle.vms_certifying.specs.Certifying.{CertifyState, segments_in, trace_above}
use Rattle.vms_certifying.specs.Certifying.CertifyState.{Written}

module _ {J : Type 0} (Accepts : Header → List Segment → List (List ℕ) → J → Type 0) where
  -- after these lines of a trace, whose body begins at line `first`, and these of the history
  pub record KeepsWritten (first : ℕ) (texts lines : List (List ℕ)) (part : WrittenPart J) : Type 0 where
    pub header : IsHeader part.header
    pub refused : part.refused ≡ (trace_above part.header texts).refused
    pub accepts : Accepts part.header (segments_in part.header first texts) lines part.history

  -- the command stands before line n, which is one of the history
  pub record InWritten (n : ℕ) (part : WrittenPart J) (state : CertifyState) : Type 0 where
    pub first : ℕ
    pub texts : List (List ℕ)
    pub lines : List (List ℕ)
    pub keeps : KeepsWritten first texts lines part
    pub number : n ≡ first + length texts + 1 + length lines
    pub state_is : state ≡ Written part.header first texts lines

  -- the same before some line, or at the end of the input
  abbrev pub InSomeWritten : ℕ → WrittenPart J → Type 0
  InSomeWritten n part = (state : CertifyState) × InWritten n part state
