-- How much a pass has in flight inside a call.
use Rattle.std.specs.Prelude.{◌≡◌, ℕ, ◌+◌, ◌≤◌, ◌||◌, nat_eq, Bool, false, ℤ, pos, List, [], ◌∷◌, ◌++◌, Option}
use Rattle.std.specs.Prelude.{if◌then◌else◌, unsigned_abs}
use Rattle.vms_calls.specs.Common.{CarriesNothing, CpuId, Facts, Header, History, IsCounter, Mode, State, Step, Take}
use Rattle.vms_calls.specs.Common.{ZoneSize, facts_of, most_threshold, own, owner_in, role, cpu_in}
use Rattle.vms_calls.specs.PageCalls.{IsPageCall, owns_cpu}
use Rattle.vms_calls.specs.declared.page_calls.PageAnswer.{PageAnswer}
use Rattle.vms_calls.specs.declared.page_calls.PageCall.{PageCall}
use Rattle.vms_calls.specs.declared.page_calls.PageCall.TheVariants.{Bury, Change, Fold}
use Rattle.vms_core.specs.Changes.{overstep_of}
use Rattle.vms_core.specs.Spending.{is_owner}
use Rattle.vms_drift.specs.Moments.{MadeSince}
use Rattle.vms_near.specs.InFlight.{in_flight_of, is_dead}

-- how far a change goes at most beyond what it has to: half a threshold, 62 pages, and not at all for `mod`
abbrev pub most_overstep : Mode → ℕ
most_overstep how = unsigned_abs (overstep_of how most_threshold)

-- a step takes differentials of the CPU that a pass owns
abbrev pub takes_from : Option CpuId → Step → Bool
takes_from who (Take d j w) = is_owner who d.number
takes_from who _ = false

-- a caller other than p does so in these events
abbrev pub others_take : Option CpuId → (p : ℕ) → History → Bool
others_take who p [] = false
others_take who p (e ∷ h) =
    if nat_eq e.caller p then others_take who p h else (takes_from who e.step || others_take who p h)

-- a call takes differentials of CPU c
abbrev pub folds_cpu : CpuId → PageCall → Bool
folds_cpu c (Fold d) = nat_eq d.number c.number
folds_cpu c (Bury d) = nat_eq d.number c.number
folds_cpu c _ = false

-- the most that a call has in flight of counter k: a change its size, of its own counter alone, and how far it may go
-- beyond what it has to if others take differentials of its CPU meanwhile; a fold of one's own CPU, and of one that is
-- dead, nothing; any other fold what a differential may hold; and every other call nothing
abbrev pub most_in_flight : (ℤ → ℕ) → (owner : Option CpuId) → (taken : Bool) → (dead : CpuId → Bool) → PageCall → ℕ → ℕ
most_in_flight part owner taken dead (Change l delta how) k =
    if nat_eq l.number k then part delta + (if taken then most_overstep how else 0) else 0
most_in_flight part owner taken dead (Fold c) k = if owns_cpu owner c || dead c then 0 else most_threshold
most_in_flight part owner taken dead (Bury c) k = if dead c then 0 else most_threshold
most_in_flight part owner taken dead _ k = 0

-- a CPU is dead at a moment
abbrev pub is_dead_at : Facts → History → CpuId → Bool
is_dead_at facts h c = is_dead (cpu_in facts c.number h)

-- a pass that carried nothing before and has made the first steps of a call has at most that in flight of each counter,
-- whatever others did between them, by any measure of a change that is 0 where nothing changes
abbrev pub CallsFlyLittle : (pressure normal : ZoneSize → ℕ → ℕ → Type 0) → Type 0
CallsFlyLittle pressure normal = (header : Header) (base : State) (call : PageCall) (owner : Option CpuId) (p : ℕ)
    (later earlier : History) (made rest : List Step) (answer : PageAnswer) →
    IsPageCall header base pressure normal call owner p earlier (made ++ rest) answer →
    (since : MadeSince (facts_of header base) later earlier p made) → CarriesNothing header.layout (own earlier p) →
    owner_in role later p ≡ owner → (part : ℤ → ℕ) → part (pos 0) ≡ 0 → (k : ℕ) → IsCounter header.layout k →
    in_flight_of part (facts_of header base) later p k
    ≤ most_in_flight part owner (others_take owner p since.extends.0) (is_dead_at (facts_of header base) later) call k
