-- What is to be said of each call on the page counters: the steps that it makes with its answer, what it spends, where
-- it may be made, and how its steps tell the answer.
use Rattle.std.specs.Prelude.{◌≡◌, ℕ, nat_eq, Bool, true, false, pos, ◌+ℤ◌, List, ◌++◌, if◌then◌else◌, Option, Some}
use Rattle.std.specs.Prelude.{None, unsigned_abs}
use Rattle.vms_history.specs.Common.{Header, CpuId, Dead, ZoneSize, IsHeader, Shape, IsCounter, IsCpu, IsItem, IsLayout}
use Rattle.vms_history.specs.Common.{IsZone, own, after, total, owner_in}
use Rattle.vms_core.specs.declared.states.State.{State}
use Rattle.vms_core.specs.declared.steps.Step.{Step}
use Rattle.vms_core.specs.Common.{cpu_at, CarriesNothing, History, state_after, role, change_size}
use Rattle.vms_calls.specs.declared.page_calls.PageAnswer.{PageAnswer}
use Rattle.vms_calls.specs.declared.page_calls.PageAnswer.TheVariants as answer
use Rattle.vms_calls.specs.declared.page_calls.PageCall.{PageCall}
use Rattle.vms_calls.specs.declared.page_calls.PageCall.TheVariants.{Change, Fold, Test, Value, Snapshot, System}
use Rattle.vms_calls.specs.declared.page_calls.PageCall.TheVariants.{SetPressure, SetNormal, Bury, Turn}
use Rattle.vms_calls.specs.CallerLaws.{CarriesAsBefore}
use Rattle.vms_calls.specs.ChangeReadings.{read_change}
use Rattle.vms_calls.specs.Changes.{IsChange}
use Rattle.vms_calls.specs.FoldReadings.{read_fold}
use Rattle.vms_calls.specs.Folds.{IsFold}
use Rattle.vms_calls.specs.HeaderFacts.{facts_of}
use Rattle.vms_calls.specs.LoneChanges.{MayChange}
use Rattle.vms_calls.specs.LookReadings.{read_snapshot, read_test, read_value}
use Rattle.vms_calls.specs.Looks.{IsPlaceValue, IsSnapshot, IsSystemValue, IsWatermarkTest}
use Rattle.vms_calls.specs.MayMake.{HasMade, IsLivePass, MayBegin}
use Rattle.vms_calls.specs.RatingReadings.{read_burial, read_node_rating}
use Rattle.vms_calls.specs.Ratings.{Buries, SetsNormal, SetsPressure}
use Rattle.vms_calls.specs.TurnReadings.{read_turn}
use Rattle.vms_calls.specs.Turns.{IsTurn}

-- whether a pass that owns a CPU, or none, owns this one
abbrev pub owns_cpu : Option CpuId → CpuId → Bool
owns_cpu (Some d) c = nat_eq d.number c.number
owns_cpu None c = false

-- the steps of a call by pass p, which owns a CPU or none, where the call begins in history h of a phase from this
-- state, and what the call answers
abbrev pub IsPageCall : Header → State → (pressure normal : ZoneSize → ℕ → ℕ → Type 0) → PageCall → Option CpuId → ℕ
    → History → List Step → PageAnswer → Type 0
IsPageCall header base pressure normal (Change k delta how) (Some own) p h steps answer.Done =
    IsChange header.layout own k delta how steps
IsPageCall header base pressure normal (Fold c) owner p h steps answer.Done =
    IsFold header.layout (owns_cpu owner c) c steps
IsPageCall header base pressure normal (Test g mark most) owner p h steps (answer.Tested verdict) =
    IsWatermarkTest header g mark most steps verdict
IsPageCall header base pressure normal (Value k) owner p h steps (answer.Value pages) = IsPlaceValue k steps pages
IsPageCall header base pressure normal (Snapshot k) owner p h steps (answer.Snapshot pages) =
    IsSnapshot header.layout k steps pages
IsPageCall header base pressure normal (System i) owner p h steps (answer.System pages) = IsSystemValue i steps pages
IsPageCall header base pressure normal (SetPressure n) None p h steps answer.Done =
    SetsPressure (facts_of header base) pressure normal n p h steps
IsPageCall header base pressure normal (SetNormal n) None p h steps answer.Done =
    SetsNormal (facts_of header base) normal n p h steps
IsPageCall header base pressure normal (Bury c) None p h steps answer.Done =
    Buries (facts_of header base) normal c p h steps
IsPageCall header base pressure normal (Turn n order most) None p h steps (answer.Balanced balance) =
    IsTurn header base pressure normal n order most p h steps balance
IsPageCall header base pressure normal _ _ p h steps _ = ⊥

-- what a call spends on counter l: a change its size, on its own counter alone
abbrev pub page_spent : PageCall → ℕ → ℕ
page_spent (Change k delta how) l = if nat_eq k.number l then unsigned_abs delta else 0
page_spent _ l = 0

-- what is asked of a pass that lives, beside that, where it may make a call
abbrev pub AllowsPageCall : Header → State → History → ℕ → PageCall → Option CpuId → Type 0
AllowsPageCall header base h p (Change k delta how) (Some own) = MayChange (facts_of header base) h p own k delta
AllowsPageCall header base h p (Fold c) owner = IsCpu header.layout c.number
AllowsPageCall header base h p (Test g mark most) owner = IsZone header.layout g.number
AllowsPageCall header base h p (Value k) owner = IsCounter header.layout k.number
AllowsPageCall header base h p (Snapshot k) owner = IsCounter header.layout k.number
AllowsPageCall header base h p (System i) owner = IsItem header.layout i.number
AllowsPageCall header base h p (SetPressure n) owner = Unit {0}
AllowsPageCall header base h p (SetNormal n) owner = Unit {0}
AllowsPageCall header base h p (Bury c) owner =
    IsCpu header.layout c.number × (cpu_at (state_after (facts_of header base) h) c.number ≡ Dead)
AllowsPageCall header base h p (Turn n order most) owner = IsHeader header
AllowsPageCall header base h p _ _ = ⊥

-- a pass may make a call: it lives, carries nothing and owns this CPU, or none, and the call is allowed to it
pub record MayMakePageCall (header : Header) (base : State) (h : History) (p : ℕ) (call : PageCall)
    (owner : Option CpuId) : Type 0 where
  pub living : IsLivePass (facts_of header base) h p
  pub owner_is : owner_in role h p ≡ owner
  pub nothing : CarriesNothing header.layout (own h p)
  pub allowed : AllowsPageCall header base h p call owner

-- then it may make the steps, whatever others do between them
abbrev pub MakesPageCalls : (pressure normal : ZoneSize → ℕ → ℕ → Type 0) → Type 0
MakesPageCalls pressure normal = (header : Header) (base : State) (h : History) (p : ℕ) (call : PageCall)
    (owner : Option CpuId) → MayMakePageCall header base h p call owner →
    MayBegin (facts_of header base) p h
    (λ steps. (answer : PageAnswer) × IsPageCall header base pressure normal call owner p h steps answer)

-- after a call its caller carries what it carried before, and its own steps changed each counter by what it spends more
pub record SpendsByCall (shape : Shape) (call : PageCall) (p : ℕ) (steps : List Step) (g : History) : Type 0 where
  pub carries : CarriesAsBefore shape p steps g
  pub changes : (l : ℕ) →
      total (change_size l) (after p steps g) ≡ pos (page_spent call l) +ℤ total (change_size l) g

-- this holds of the steps of every call, from every history on
abbrev pub PageCallsSpend : (pressure normal : ZoneSize → ℕ → ℕ → Type 0) → Type 0
PageCallsSpend pressure normal = (header : Header) (base : State) (call : PageCall) (owner : Option CpuId) (p : ℕ)
    (h : History) (steps : List Step) (answer : PageAnswer) → IsLayout header.layout →
    IsPageCall header base pressure normal call owner p h steps answer → (g : History) →
    SpendsByCall header.layout call p steps g

-- a reading of steps as the answer of a call
abbrev pub page_answered : {A : Type 0} → (A → PageAnswer) → A × List Step → PageAnswer × List Step
page_answered tell reading = (tell reading.0, reading.1)

abbrev pub done : {A : Type 0} → A → PageAnswer
done read = answer.Done

-- what the steps of a call answer, read from a list of steps that begins with them, and the steps after them
abbrev pub read_page_call : Header → PageCall → Option CpuId → List Step → PageAnswer × List Step
read_page_call header (Change k delta how) owner steps = page_answered done (read_change steps)
read_page_call header (Fold c) owner steps =
    page_answered done (read_fold header.layout (owns_cpu owner c) steps)
read_page_call header (Test g mark most) owner steps =
    page_answered (λ verdict. answer.Tested verdict) (read_test header g mark most steps)
read_page_call header (Value k) owner steps = page_answered (λ pages. answer.Value pages) (read_value steps)
read_page_call header (Snapshot k) owner steps =
    page_answered (λ pages. answer.Snapshot pages) (read_snapshot header.layout k steps)
read_page_call header (System i) owner steps = page_answered (λ pages. answer.System pages) (read_value steps)
read_page_call header (SetPressure n) owner steps = page_answered done (read_node_rating header.layout n steps)
read_page_call header (SetNormal n) owner steps = page_answered done (read_node_rating header.layout n steps)
read_page_call header (Bury c) owner steps = page_answered done (read_burial header.layout steps)
read_page_call header (Turn n order most) owner steps =
    page_answered (λ balance. answer.Balanced balance) (read_turn header n order most steps)

-- a call asks a rule for thresholds
abbrev pub asks_rules : PageCall → Bool
asks_rules (SetPressure n) = true
asks_rules (SetNormal n) = true
asks_rules (Bury c) = true
asks_rules (Turn n order most) = true
asks_rules _ = false

-- the steps of a call tell its answer, and where they end among further steps; those of one that asks a rule do so
-- where a pass has made them
abbrev pub TellsPageCall : (pressure normal : ZoneSize → ℕ → ℕ → Type 0) → Type 0
TellsPageCall pressure normal = (header : Header) (base : State) (call : PageCall) (owner : Option CpuId) (p : ℕ)
    (later h : History) (steps : List Step) (answer : PageAnswer) →
    IsPageCall header base pressure normal call owner p h steps answer →
    (asks_rules call ≡ true → HasMade (facts_of header base) later h p steps) → (more : List Step) →
    read_page_call header call owner (steps ++ more) ≡ (answer, more)
