-- Which calls on the page counters the lines of a lane make, and what a pass makes of one.
use Rattle.std.specs.Prelude.{◌≡◌, ℕ, ◌≤◌, true, List}
use Rattle.vms_calls.specs.PageCalls.{IsPageCall, asks_rules}
use Rattle.vms_calls.specs.declared.page_calls.PageAnswer.{PageAnswer}
use Rattle.vms_calls.specs.declared.page_calls.PageCall.{PageCall}
use Rattle.vms_calls.specs.declared.page_calls.PageCall.TheVariants.{Change, Fold, Test, Value, Snapshot, System}
use Rattle.vms_calls.specs.declared.page_calls.PageCall.TheVariants.{SetPressure, SetNormal, Turn}
use Rattle.vms_core.specs.Pages as page_histories
use Rattle.vms_count.specs.Common.{GoesWith}
use Rattle.vms_seats.specs.Common.{Pass, Made}
use Rattle.vms_world.specs.Common.{Header, ZoneSize, IsCounter, IsCpu, IsItem, IsNode, IsZone, State, Facts, Step}
use Rattle.vms_world.specs.Common.{HasMade, facts_of}

-- a fold, a test of a watermark or a look, which the lines of every lane make: what it names is of the header
abbrev pub IsFoldOrLook : Header → PageCall → Type 0
IsFoldOrLook header (Fold c) = IsCpu header.layout c.number
IsFoldOrLook header (Test g mark most) = IsZone header.layout g.number × (most ≤ 3)
IsFoldOrLook header (Value k) = IsCounter header.layout k.number
IsFoldOrLook header (Snapshot k) = IsCounter header.layout k.number
IsFoldOrLook header (System i) = IsItem header.layout i.number
IsFoldOrLook header _ = ⊥

-- a call of the lines of a CPU's lane
abbrev pub IsCallOfCpu : Header → PageCall → Type 0
IsCallOfCpu header (Change k delta how) = IsCounter header.layout k.number × GoesWith how delta
IsCallOfCpu header call = IsFoldOrLook header call

-- a call of the lines of the control lane, but for a burial, which makes calls on all tables
abbrev pub IsCallOfControl : Header → PageCall → Type 0
IsCallOfControl header (SetPressure n) = IsNode header.layout n.number
IsCallOfControl header (SetNormal n) = IsNode header.layout n.number
IsCallOfControl header (Turn n order most) = IsNode header.layout n.number × (order ≤ 10) × (most ≤ 3)
IsCallOfControl header call = IsFoldOrLook header call

-- the pass on the page counters made the steps of a call and no others, which tell its answer
pub record HasCalled (header : Header) (pressure normal : ZoneSize → ℕ → ℕ → Type 0) (base : State) (call : PageCall)
    (new old : Pass Facts Step) (told : PageAnswer) : Type 0 where
  pub steps : List Step
  pub is_call : IsPageCall header base pressure normal call old.cpu old.number old.seen steps told
  pub made : Made page_histories.pages new old steps
  pub asked : asks_rules call ≡ true → HasMade (facts_of header base) new.seen old.seen old.number steps
