-- What a snapshot of a counter tells of the counter's true total.
use Rattle.std.specs.Prelude.{◌≡◌, ◌≢◌, ℕ, suc, ◌+◌, ◌*◌, ◌≤◌, ◌&&◌, nat_eq, Bool, false, ℤ, pos, ◌+ℤ◌, ◌-ℤ◌, ◌≤ℤ◌}
use Rattle.std.specs.Prelude.{unsigned_abs, List, [], ◌∷◌, ◌++◌, All, length, if◌then◌else◌}
use Rattle.vms_calls.specs.Common.{CounterId, Event, Extends, Facts, History, IsSnapshot, LoadD, LoadG, Look, Put}
use Rattle.vms_calls.specs.Common.{Shape, State, Step, Take, after, at_least_zero, carried_by_all, cpu_at, diff_at}
use Rattle.vms_calls.specs.Common.{group_of, hidden, in_turn, look_steps, online, other, own, peak, place_of}
use Rattle.vms_calls.specs.Common.{state_after, sum_below, true_total}
use Rattle.vms_core.specs.Pages.{IsLegal}
use Rattle.vms_drift.specs.Moments.{MadeSince}
use Rattle.vms_near.specs.Hiding.{may_hide}
use Rattle.vms_near.specs.InFlight.{is_dead}
use Rattle.vms_near.specs.Near.{TellsNearly, most_above, most_below, most_off}

-- what the CPUs that are dead hide of counter k
abbrev pub dead_diff : State → ℕ → ℕ → ℤ
dead_diff s k c = if is_dead (cpu_at s c) then diff_at s c k else pos 0

abbrev pub hidden_by_dead : Shape → State → ℕ → ℤ
hidden_by_dead shape s k = sum_below (dead_diff s k) shape.cpus

-- how far a sum for counter k is off its true total at a moment, less what callers carry then and dead CPUs hide
abbrev pub off_by : Facts → History → (k : ℕ) → ℤ → ℕ
off_by facts h k sum = unsigned_abs ((sum +ℤ (carried_by_all h k
    +ℤ hidden_by_dead facts.layout (state_after facts h) k)) -ℤ true_total facts h k)

-- a number of each CPU, summed over those that these looks found online. They are looks at the CPUs from c on
abbrev pub over_online : (ℕ → ℕ) → (c : ℕ) → List Look → ℕ
over_online f c [] = 0
over_online f c (online w ∷ looks) = f c + over_online f (suc c) looks
over_online f c (other x differs ∷ looks) = over_online f (suc c) looks

-- how many of these looks found a CPU online
abbrev pub online_looks : List Look → ℕ
online_looks looks = over_online (λ c. 1) 0 looks

-- the newest event of a history is a step of caller p
abbrev pub EndsWithStep : ℕ → History → Type 0
EndsWithStep p h = (step : Step) × (before : History) × (h ≡ record { caller = p; step = step } ∷ before)

-- a moment with caller p's load of the value of counter k
abbrev pub with_load : (p : ℕ) → CounterId → ℤ → History → History
with_load p k value moment = record { caller = p; step = LoadG k value } ∷ moment

-- whether an event is caller p's load of the differentials of CPU c
abbrev pub loads_diffs : (c : ℕ) → Step → Bool
loads_diffs c (LoadD d j w) = nat_eq d.number c
loads_diffs c _ = false

abbrev pub is_look : (p c : ℕ) → Event Step → Bool
is_look p c e = nat_eq e.caller p && loads_diffs c e.step

-- of these events, which have one look of caller p at CPU c, those before the look
abbrev pub before_look : (p c : ℕ) → History → History
before_look p c [] = []
before_look p c (e ∷ since) = if is_look p c e then since else before_look p c since

-- by how much events on top of a history move the differential of CPU c for counter k, up and down together
abbrev pub moves : Facts → (h since : History) → (k c : ℕ) → ℕ
moves facts h [] k c = 0
moves facts h (e ∷ since) k c =
    unsigned_abs (diff_at (state_after facts (e ∷ (since ++ h))) c k -ℤ diff_at (state_after facts (since ++ h)) c k)
    + moves facts h since k c

-- by how much it moves until caller p looks at the CPU, what the CPU may hide then, and its peak then
abbrev pub moves_until_look : Facts → (p : ℕ) → (h since : History) → (k c : ℕ) → ℕ
moves_until_look facts p h since k c = moves facts h (before_look p c since) k c

abbrev pub hides_at_look : Facts → (p : ℕ) → (h since : History) → (k c : ℕ) → ℕ
hides_at_look facts p h since k c = may_hide facts (before_look p c since ++ h) c (place_of facts.layout k)

abbrev pub peak_at_look : Facts → (p : ℕ) → (h since : History) → (k c : ℕ) → ℕ
peak_at_look facts p h since k c = peak facts c (place_of facts.layout k) (before_look p c since ++ h)

-- a sum for counter k, and the pages that are told of it, which are 0 in place of a negative sum, are near the true
-- total of a moment, as its value is, but for so many pages more
pub record TellsNearlyBut (facts : Facts) (h : History) (k : ℕ) (sum : ℤ) (more : ℕ) : Type 0 where
  pub signed : unsigned_abs (sum -ℤ true_total facts h k) ≤ more + most_off facts h k
  -- the true total is at most what is told and so many pages
  pub at_most : true_total facts h k ≤ℤ pos (at_least_zero sum + (more + most_above facts h k))
  -- and at least what is told less so many, where that isn't 0
  pub at_least : at_least_zero sum ≢ 0 →
      pos (at_least_zero sum) ≤ℤ (true_total facts h k +ℤ pos (more + most_below facts h k))

-- a snapshot of counter k that caller p took between these histories. It loads the global value after `moment` and
-- looks at each CPU then; `since` is what all callers make from that load on up to the last look
pub record SumsNearly (facts : Facts) (later earlier : History) (p : ℕ) (k : CounterId) (answer : ℕ) : Type 0 where
  pub moment : History
  pub since : History
  pub value : ℤ
  pub looks : List Look
  pub begins : Extends moment earlier
  pub until : Extends later (since ++ with_load p k value moment)
  pub one_each : length looks ≡ facts.layout.cpus
  pub ends : EndsWithStep p (since ++ with_load p k value moment)
  pub made : own since p ≡ after p (in_turn (look_steps (group_of k.number)) 0 looks) []
  pub answers : answer ≡ at_least_zero (value +ℤ hidden k.number looks)
  -- whatever all callers make, the value with what the looks find is off by no more than what moves at the CPUs found
  -- online, each until its look
  pub by_moves : off_by facts moment k.number (value +ℤ hidden k.number looks)
      ≤ over_online (moves_until_look facts p (with_load p k value moment) since k.number) 0 looks
  -- nor by more than these CPUs may hide at the moment and at their looks
  pub by_hiding : off_by facts moment k.number (value +ℤ hidden k.number looks)
      ≤ over_online (λ c. may_hide facts moment c (place_of facts.layout k.number)
      + hides_at_look facts p (with_load p k value moment) since k.number c) 0 looks
  -- it is near the true total of the moment but for what they may hide at their looks, and the value alone is near it
  pub of_truth : TellsNearlyBut facts moment k.number (value +ℤ hidden k.number looks)
      (over_online (hides_at_look facts p (with_load p k value moment) since k.number) 0 looks)
  pub value_near : TellsNearly facts moment k.number value

-- every snapshot is one, whatever others make meanwhile
abbrev pub SnapshotsSumNearly : Type 0
SnapshotsSumNearly = (facts : Facts) (later earlier : History) (p : ℕ) (k : CounterId) (steps : List Step)
    (answer : ℕ) → IsSnapshot facts.layout k steps answer → MadeSince facts later earlier p steps →
    SumsNearly facts later earlier p k answer

-- a sum is the true total at a moment, less what callers carry then and dead CPUs hide
abbrev pub IsExact : Facts → History → (k : ℕ) → ℤ → Type 0
IsExact facts h k sum = (sum +ℤ (carried_by_all h k +ℤ hidden_by_dead facts.layout (state_after facts h) k))
    ≡ true_total facts h k

-- where nothing moves at the CPUs found online, each until its look, the sum of a snapshot is exact
abbrev pub UnmovedAreExact : Type 0
UnmovedAreExact = (facts : Facts) (later earlier : History) (p : ℕ) (k : CounterId) (answer : ℕ)
    (sums : SumsNearly facts later earlier p k answer) →
    over_online (moves_until_look facts p (with_load p k sums.value sums.moment) sums.since k.number) 0 sums.looks ≡ 0 →
    IsExact facts sums.moment k.number (sums.value +ℤ hidden k.number sums.looks)

-- a step that puts nothing to counter k and doesn't take its group
abbrev pub LeavesDiffs : ℕ → Step → Type 0
LeavesDiffs k (Put l w t delta how) = l.number ≢ k
LeavesDiffs k (Take c j w) = j.number ≢ group_of k
LeavesDiffs k _ = Unit {0}

-- no event does
abbrev pub AllLeaveDiffs : ℕ → History → Type 0
AllLeaveDiffs k h = All (λ (e : Event Step). LeavesDiffs k e.step) h

-- so it is where no caller puts to the counter or takes its group until the last look
abbrev pub UntouchedAreExact : Type 0
UntouchedAreExact = (facts : Facts) (later earlier : History) (p : ℕ) (k : CounterId) (answer : ℕ)
    (sums : SumsNearly facts later earlier p k answer) → IsLegal facts later → AllLeaveDiffs k.number sums.since →
    IsExact facts sums.moment k.number (sums.value +ℤ hidden k.number sums.looks)

-- what a CPU may hide is at most its peak, so the same holds by the peaks of the CPUs found online
pub record TellsByPeaks (facts : Facts) (p : ℕ) (k : ℕ) (begun since : History) (sum : ℤ) (moment : History)
    (looks : List Look) : Type 0 where
  pub by_peaks : off_by facts moment k sum
      ≤ over_online (λ c. peak facts c (place_of facts.layout k) moment + peak_at_look facts p begun since k c) 0 looks
  pub of_truth : TellsNearlyBut facts moment k sum (over_online (peak_at_look facts p begun since k) 0 looks)

abbrev pub PeaksBoundSums : Type 0
PeaksBoundSums = (facts : Facts) (later earlier : History) (p : ℕ) (k : CounterId) (answer : ℕ)
    (sums : SumsNearly facts later earlier p k answer) → IsLegal facts later →
    TellsByPeaks facts p k.number (with_load p k sums.value sums.moment) sums.since
    (sums.value +ℤ hidden k.number sums.looks) sums.moment sums.looks

-- always it is off by at most 250 for each CPU found online
abbrev pub LooksBoundSums : Type 0
LooksBoundSums = (facts : Facts) (later earlier : History) (p : ℕ) (k : CounterId) (answer : ℕ)
    (sums : SumsNearly facts later earlier p k answer) → IsLegal facts later →
    off_by facts sums.moment k.number (sums.value +ℤ hidden k.number sums.looks) ≤ 250 * online_looks sums.looks
