-- How a complete history of event counters ends, and that the next one may begin with its words.
use Rattle.std.specs.Prelude.{◌≡◌, ℕ, ◌+◌, ◌^◌, ◌≤◌, pos, ◌+ℤ◌, ◌≤ℤ◌, []}
use Rattle.vms_history.specs.Common.{IsCpu, most_volume, own, sum_below}
use Rattle.vms_event_core.specs.declared.steps.EventFacts.{EventFacts}
use Rattle.vms_event_core.specs.Bases.{IsBase, most_in_base}
use Rattle.vms_event_core.specs.Events.{History, state_after, carried_by_all, true_total}
use Rattle.vms_event_core.specs.Own.{carried}
use Rattle.vms_event_core.specs.Totals.{spent}
use Rattle.vms_event_core.specs.Words.{IsEvent, sum_of_words}

-- where every pass has ended, nothing is carried for an event, and its words alone are the true total
pub record HoldsTotals (facts : EventFacts) (h : History) (k : ℕ) : Type 0 where
  pub nothing_in_hand : (p : ℕ) → carried k (own h p) ≡ pos 0
  pub nothing_carried : carried_by_all h k ≡ pos 0
  pub words : sum_of_words facts.layout (state_after facts h) k ≡ true_total facts h k

-- the facts for a history that begins with the words that this one leaves
abbrev pub ending : EventFacts → History → EventFacts
ending facts h = record facts { base = state_after facts h }

-- the true total of each event is small enough for a base
abbrev pub LeavesRoom : EventFacts → History → Type 0
LeavesRoom facts h = (k : ℕ) → IsEvent k → true_total facts h k ≤ℤ pos most_in_base

-- a complete history leaves a base, and the next history begins with the same true totals
pub record BeginsAgain (facts : EventFacts) (h : History) : Type 0 where
  pub base : IsBase (ending facts h)
  pub totals : (k : ℕ) → IsEvent k → true_total (ending facts h) [] k ≡ true_total facts h k

-- what the words of an event may be in sum before any CPU has spent something of its volume
abbrev pub most_start : ℕ
most_start = 2 ^ 59

-- the words of an event in the base are in sum at most a start, and what each CPU has spent on it in earlier histories
pub record IsPaid (facts : EventFacts) (start : ℕ) (earlier : ℕ → ℕ → ℕ) : Type 0 where
  pub small : start ≤ most_start
  pub words : (k : ℕ) → IsEvent k → sum_of_words facts.layout facts.base k
      ≤ℤ (pos start +ℤ sum_below (λ c. pos (earlier c k)) facts.layout.cpus)

-- what each CPU has spent in the earlier histories and this one
abbrev pub spent_by_now : (ℕ → ℕ → ℕ) → History → ℕ → ℕ → ℕ
spent_by_now earlier h c k = earlier c k + spent h c k

-- no CPU spends more than its volume in the earlier histories and this one together
abbrev pub StaysWithinVolumes : EventFacts → (ℕ → ℕ → ℕ) → History → Type 0
StaysWithinVolumes facts earlier h = (c k : ℕ) → IsCpu facts.layout c → IsEvent k →
    spent_by_now earlier h c k ≤ most_volume
