-- What the lines say of a call that its pass makes on plain page counters, where no other caller acts meanwhile.
use Rattle.std.specs.Prelude.{◌≡◌, ℕ, List, ◌++◌, Option}
use Rattle.vms_calls.specs.Common.{CarriesNothing, CpuId, Header, History, State, ZoneSize, facts_of, own, state_after}
use Rattle.vms_calls.specs.PageCalls.{MayMakePageCall}
use Rattle.vms_calls.specs.declared.page_calls.PageAnswer.{PageAnswer}
use Rattle.vms_calls.specs.declared.page_calls.PageCall.{PageCall}
use Rattle.vms_plain_control.specs.Common.{ControlCall, Controls, KnowsPeaks}
use Rattle.vms_plain_control.specs.Control.{Makes}
use Rattle.vms_plain_control.specs.PageCalls.{AnswersPageCall, GoesOnByCall}
use Rattle.vms_rating_lines.specs.Lines.{step_lines}

-- a call leads from one state and its peaks to others, and the lines of its steps are appended to a text: wherever its
-- pass may make the call in a history that leaves that state and those peaks, the history goes on with these steps
pub record WritesCall (header : Header) (pressure normal : ZoneSize → ℕ → ℕ → Type 0) (call : PageCall)
    (owner : Option CpuId) (caller : ℕ) (s : State) (peaks : List ℕ) (next : State) (known : List ℕ)
    (out out' : List ℕ) : Type 0 where
  pub told : PageAnswer
  pub answers : AnswersPageCall header call owner s next told
  pub makes : (base : State) (h : History) → MayMakePageCall header base h caller call owner
      → state_after (facts_of header base) h ≡ s → KnowsPeaks (facts_of header base) h peaks
      → (goes : GoesOnByCall header base pressure normal call owner caller h told next known)
      × (out' ≡ out ++ step_lines caller goes.steps)

-- what ControlWrites says, of a pass that carries nothing
abbrev pub UnladenWrites : Header → ControlCall → ℕ → State → List ℕ → State → List ℕ → List ℕ → List ℕ → Type 0
UnladenWrites header IsCall caller s peaks next known out out' = (base : State) (h : History) (p : ℕ)
    → Controls header base h p s peaks → CarriesNothing header.layout (own h p)
    → (made : Makes header IsCall s next known base h p) × (out' ≡ out ++ step_lines caller made.0)
