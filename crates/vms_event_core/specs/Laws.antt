-- What holds of every legal history of event counters.
use Rattle.std.specs.Prelude.{◌≡◌, ◌≢◌, ℕ, true, ◌+◌, ◌*◌, ◌≤◌, ◌<◌, ◌^◌, pos, ◌+ℤ◌, ◌≤ℤ◌, Some, None}
use Rattle.vms_history.specs.Common.{CpuId, Dead, Absent, Shape, IsCpu, most_volume, own, total, lives_in, owner_in}
use Rattle.vms_history.specs.Common.{sum_below}
use Rattle.vms_event_core.specs.declared.steps.EventFacts.{EventFacts}
use Rattle.vms_event_core.specs.Bases.{cpu_at, most_in_base}
use Rattle.vms_event_core.specs.Events.{History, MayOwn, state_after, carried_by_all, true_total}
use Rattle.vms_event_core.specs.Own.{carried}
use Rattle.vms_event_core.specs.Steps.{role}
use Rattle.vms_event_core.specs.Totals.{counted, taken_from, takes, spent, word_in}
use Rattle.vms_event_core.specs.Words.{IsEvent, HasShape, word_at, sum_of_words}

-- no count is lost and none is counted twice: the words of an event and what is carried for it add up to its true total
abbrev pub KeepsTotals : EventFacts → History → Type 0
KeepsTotals facts h = (k : ℕ) → IsEvent k →
    sum_of_words facts.layout (state_after facts h) k +ℤ carried_by_all h k ≡ true_total facts h k

-- what the words of one event and all that is carried for it may come to
abbrev pub most_in_sum : Shape → ℕ
most_in_sum shape = most_in_base + shape.cpus * most_volume

-- the words of an event and all that is carried for it stay below that in sum, and so does each of them
pub record BoundsWords (facts : EventFacts) (h : History) : Type 0 where
  pub sums : (k : ℕ) → IsEvent k →
      (sum_of_words facts.layout (state_after facts h) k +ℤ carried_by_all h k) ≤ℤ pos (most_in_sum facts.layout)
  pub words : (c k : ℕ) → IsCpu facts.layout c → IsEvent k →
      word_at (state_after facts h) c k ≤ most_in_sum facts.layout
  pub carried_least : (p k : ℕ) → pos 0 ≤ℤ carried k (own h p)
  pub carried_most : (p k : ℕ) → IsEvent k → carried k (own h p) ≤ℤ pos (most_in_sum facts.layout)
  pub below : most_in_sum facts.layout < 2 ^ 62

-- the words of a CPU that is dead in the base move once: what stands and what was taken are what the base had, and at
-- most one take found another number than 0
pub record MovesOnce (facts : EventFacts) (h : History) (c k : ℕ) : Type 0 where
  pub kept : pos (word_at (state_after facts h) c k) +ℤ total (taken_from c k) h ≡ pos (word_at facts.base c k)
  pub once : takes c k h ≤ 1

-- who carries something for an event is a control pass that lives
pub record IsLiveControl (h : History) (p : ℕ) : Type 0 where
  pub lives : lives_in role h p ≡ true
  pub control : owner_in role h p ≡ None

abbrev pub CarriesAsControl : History → Type 0
CarriesAsControl h = (p k : ℕ) → IsEvent k → carried k (own h p) ≢ pos 0 → IsLiveControl h p

-- what holds of every legal history
pub record KeepsLaws (facts : EventFacts) (h : History) : Type 0 where
  -- there is a word for each CPU and each event
  pub shape : HasShape facts.layout (state_after facts h)
  -- each word is what the steps made of the base's word
  pub words : (c k : ℕ) → IsEvent k → word_at (state_after facts h) c k ≡ word_in facts h c k
  -- no count is lost, and none is counted twice
  pub totals : KeepsTotals facts h
  -- what was counted of an event is what the CPUs spent on it, in sum
  pub spendings : (k : ℕ) → total (counted k) h ≡ sum_below (λ c. pos (spent h c k)) facts.layout.cpus
  -- a CPU counts an event by at most 2^48
  pub volumes : (c k : ℕ) → spent h c k ≤ most_volume
  -- words and carried amounts are bounded, each and in sum, and none is below 0
  pub bounds : BoundsWords facts h
  -- what a dead CPU has counted moves once
  pub dead : (c k : ℕ) → cpu_at facts c ≡ Dead → IsEvent k → MovesOnce facts h c k
  -- an absent CPU has counted nothing
  pub absent : (c k : ℕ) → IsCpu facts.layout c → cpu_at facts c ≡ Absent → IsEvent k →
      word_at (state_after facts h) c k ≡ 0
  -- only a control pass that lives carries something
  pub carriers : CarriesAsControl h
  -- a pass owns a CPU only where that CPU is online
  pub owners : (p : ℕ) (c : CpuId) → owner_in role h p ≡ Some c → MayOwn facts (Some c)
