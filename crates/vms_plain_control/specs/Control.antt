-- What the control pass makes of plain page counters where no other caller acts meanwhile.
use Rattle.std.specs.Prelude.{◌≡◌, ℕ, List, None}
use Rattle.vms_calls.specs.Common.{Header, after, own, LeadsOn, GoesOnTo, State, Step, CarriesNothing, pages, History}
use Rattle.vms_calls.specs.Common.{state_after, facts_of, ControlsIn}
use Rattle.vms_plain_pages.specs.Common.{pages_by_state}
use Rattle.vms_plain_control.specs.KnownPeaks.{KnowsState, KnowsPeaks}

-- a call of the control pass: the state in which the phase began, the pass, the history so far, and the steps
abbrev pub ControlCall : Type 1
ControlCall = State → ℕ → History → List Step → Type 0

-- the control pass lives in a legal history of a phase of the header, which leaves this state and these peaks
pub record Controls (header : Header) (base : State) (h : History) (p : ℕ) (s : State) (peaks : List ℕ)
    : Type 0 where
  pub control : ControlsIn (facts_of header base) h p
  pub stands : state_after (facts_of header base) h ≡ s
  pub known : KnowsPeaks (facts_of header base) h peaks

-- it makes the steps of a call in a row: they lead from one state to another, the history goes on with them and is
-- legal, and the peaks are known again
abbrev pub Makes : Header → ControlCall → State → State → List ℕ → State → History → ℕ → Type 0
Makes header IsCall s next known base h p = (steps : List Step) × IsCall base p h steps
    × LeadsOn pages_by_state None steps s next
    × GoesOnTo pages (facts_of header base) p steps h next
    × KnowsPeaks (facts_of header base) (after p steps h) known

-- this holds of every history on which the control pass may act
abbrev pub ControlMakes : Header → ControlCall → State → List ℕ → State → List ℕ → Type 0
ControlMakes header IsCall s peaks next known = (base : State) (h : History) (p : ℕ) → Controls header base h p s peaks
    → Makes header IsCall s next known base h p

-- or of those on which it carries nothing
abbrev pub MakesUnladenCall : Header → ControlCall → State → List ℕ → State → List ℕ → Type 0
MakesUnladenCall header IsCall s peaks next known = (base : State) (h : History) (p : ℕ)
    → Controls header base h p s peaks → CarriesNothing header.layout (own h p)
    → Makes header IsCall s next known base h p

-- it makes the steps of a part of a call, on any history that tells of the state and the peaks
abbrev pub MakesPart : Header → ControlCall → State → List ℕ → State → List ℕ → Type 0
MakesPart header IsPart s peaks next known = (base : State) (h : History) (p : ℕ)
    → KnowsState (facts_of header base) h s peaks
    → (steps : List Step) × IsPart base p h steps × LeadsOn pages_by_state None steps s next
    × KnowsState (facts_of header base) (after p steps h) next known
