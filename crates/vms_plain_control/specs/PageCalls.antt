-- What plain page counters ask of a call by a caller that owns a CPU or none, what the call answers and makes of them,
-- and which steps it makes.
use Rattle.std.specs.Prelude.{◌≡◌, ℕ, ◌-◌, ◌^◌, ◌<◌, ◌≤◌, false, List, length, Option, Some, None, All, unsigned_abs}
use Rattle.vms_calls.specs.Common.{Header, CpuId, ZoneSize, Absent, Dead, HasOnline, IsHeader, Online, IsCounter, IsCpu}
use Rattle.vms_calls.specs.Common.{IsItem, IsNode, most_sets, IsZone, after, GoesOnTo, State, Step, at_least_zero}
use Rattle.vms_calls.specs.Common.{cpu_at, system_at, value_at, with_cpu, facts_of, pages, History, state_after, HasWon}
use Rattle.vms_calls.specs.PageCalls.{IsPageCall, MayMakePageCall, owns_cpu}
use Rattle.vms_calls.specs.declared.page_calls.PageAnswer.{PageAnswer}
use Rattle.vms_calls.specs.declared.page_calls.PageAnswer.TheVariants as answer
use Rattle.vms_calls.specs.declared.page_calls.PageCall.{PageCall}
use Rattle.vms_calls.specs.declared.page_calls.PageCall.TheVariants.{Change, Fold, Test, Value, Snapshot, System}
use Rattle.vms_calls.specs.declared.page_calls.PageCall.TheVariants.{SetPressure, SetNormal, Bury, Turn}
use Rattle.vms_core.specs.ChangedStates.{with_change}
use Rattle.vms_plain_pages.specs.Common.{FoldsCpu, IsSmallState, balance_at, snapshot_of, verdict_at}
use Rattle.vms_plain_control.specs.KnownPeaks.{HasAllPeaks, KnowsPeaks}
use Rattle.vms_plain_control.specs.SetCounts.{SetAtMost, SetsEachAtMost, SetsOnly}

-- a call is one of this caller, and what it names is of the header and may be so called in this state
abbrev pub FitsPageCall : Header → PageCall → Option CpuId → State → Type 0
FitsPageCall header (Change k delta how) owner s = (own : CpuId) × (owner ≡ Some own)
    × IsCpu header.layout own.number × (cpu_at s own.number ≡ Online) × IsCounter header.layout k.number
    × (unsigned_abs delta ≤ 2 ^ 48)
FitsPageCall header (Fold c) owner s = IsCpu header.layout c.number
FitsPageCall header (Test g mark most) owner s = IsZone header.layout g.number × (most ≤ 3)
FitsPageCall header (Value k) owner s = IsCounter header.layout k.number
FitsPageCall header (Snapshot k) owner s = IsCounter header.layout k.number
FitsPageCall header (System i) owner s = IsItem header.layout i.number
FitsPageCall header (SetPressure n) owner s = (owner ≡ None) × IsNode header.layout n.number
FitsPageCall header (SetNormal n) owner s = (owner ≡ None) × IsNode header.layout n.number
FitsPageCall header (Bury c) owner s =
    (owner ≡ None) × IsCpu header.layout c.number × (cpu_at s c.number ≡ Dead)
FitsPageCall header (Turn n order most) owner s =
    (owner ≡ None) × IsNode header.layout n.number × (order ≤ 10) × (most ≤ 3)

-- what a call needs that sets each threshold and each mark at most so often: the header's sizes, small numbers, all
-- peaks, a CPU that is online, and words that may be set so often again
pub record MaySetThresholds (header : Header) (times : ℕ) (s : State) (peaks : List ℕ) : Type 0 where
  pub valid : IsHeader header
  pub numbers : IsSmallState header.layout (2 ^ 61) s
  pub full : HasAllPeaks header.layout peaks
  pub some_online : HasOnline header.layout s.cpu
  pub room : SetAtMost header.layout (most_sets - times) s

-- what a call needs of what stands: of values only that theirs does, of a sum or a move that numbers are small
abbrev pub HasAllForCall : Header → PageCall → State → List ℕ → Type 0
HasAllForCall header (Change k delta how) s peaks = IsHeader header × IsSmallState header.layout (2 ^ 61) s
HasAllForCall header (Fold c) s peaks = IsSmallState header.layout (2 ^ 61) s
HasAllForCall header (Test g mark most) s peaks = IsHeader header × IsSmallState header.layout (2 ^ 61) s
HasAllForCall header (Value k) s peaks = k.number < length s.place
HasAllForCall header (Snapshot k) s peaks = IsSmallState header.layout (2 ^ 61) s
HasAllForCall header (System i) s peaks = i.number < length s.system
HasAllForCall header (SetPressure n) s peaks = MaySetThresholds header 1 s peaks
HasAllForCall header (SetNormal n) s peaks = MaySetThresholds header 1 s peaks
HasAllForCall header (Bury c) s peaks = MaySetThresholds header 1 s peaks
HasAllForCall header (Turn n order most) s peaks = MaySetThresholds header 2 s peaks

-- what a call answers, and which state it makes of another
abbrev pub AnswersPageCall : Header → PageCall → Option CpuId → State → State → PageAnswer → Type 0
AnswersPageCall header (Change k delta how) owner s next answer.Done = (own : CpuId) × (owner ≡ Some own)
    × (next ≡ with_change header.layout own.number k.number delta how s)
AnswersPageCall header (Fold c) owner s next answer.Done =
    FoldsCpu header.layout (owns_cpu owner c) c.number s next
AnswersPageCall header (Test g mark most) owner s next (answer.Tested verdict) =
    (next ≡ s) × (verdict ≡ verdict_at header g.number mark most s)
AnswersPageCall header (Value k) owner s next (answer.Value pages) =
    (next ≡ s) × (pages ≡ at_least_zero (value_at s k.number))
AnswersPageCall header (Snapshot k) owner s next (answer.Snapshot pages) =
    (next ≡ s) × (pages ≡ snapshot_of header.layout s k.number)
AnswersPageCall header (System i) owner s next (answer.System pages) =
    (next ≡ s) × (pages ≡ at_least_zero (system_at s i.number))
AnswersPageCall header (SetPressure n) owner s next answer.Done =
    SetsOnly s next × SetsEachAtMost header.layout 1 s next
AnswersPageCall header (SetNormal n) owner s next answer.Done =
    SetsOnly s next × SetsEachAtMost header.layout 1 s next
AnswersPageCall header (Bury c) owner s next answer.Done =
    ((folded : State) × FoldsCpu header.layout false c.number s folded × SetsOnly (with_cpu folded c.number Absent)
    next)
    × SetsEachAtMost header.layout 1 s next
AnswersPageCall header (Turn n order most) owner s next (answer.Balanced balance) =
    ((pressed : State) × SetsOnly s pressed × (balance ≡ balance_at header n order most pressed))
    × SetsOnly s next × SetsEachAtMost header.layout 2 s next
AnswersPageCall header _ owner s next _ = ⊥

-- the steps of a call by pass p in a row, none of which is a lost exchange: the history goes on with them to a state,
-- and these are the peaks then
pub record GoesOnByCall (header : Header) (base : State) (pressure normal : ZoneSize → ℕ → ℕ → Type 0) (call : PageCall)
    (owner : Option CpuId) (p : ℕ) (h : History) (told : PageAnswer) (next : State) (known : List ℕ) : Type 0 where
  pub steps : List Step
  pub is : IsPageCall header base pressure normal call owner p h steps told
  pub alone : All HasWon steps
  pub goes_on : GoesOnTo pages (facts_of header base) p steps h next
  pub knows : KnowsPeaks (facts_of header base) (after p steps h) known

-- wherever a pass may make a call in a history that leaves this state and these peaks, its steps lead to those
abbrev pub MakesPageCall : Header → (pressure normal : ZoneSize → ℕ → ℕ → Type 0) → PageCall → Option CpuId → PageAnswer
    → State → List ℕ → State → List ℕ → Type 0
MakesPageCall header pressure normal call owner told s peaks next known = (base : State) (h : History) (p : ℕ)
    → MayMakePageCall header base h p call owner → state_after (facts_of header base) h ≡ s
    → KnowsPeaks (facts_of header base) h peaks
    → GoesOnByCall header base pressure normal call owner p h told next known
