-- What a limited addition promises while others act.
use Rattle.std.specs.Prelude.{◌≡◌, ◌≢◌, ℕ, suc, nat_eq, Bool, true, ℤ, pos, negsuc, ◌+ℤ◌, ◌-ℤ◌, ◌≤ℤ◌, ◌<ℤ◌, [], ◌∷◌}
use Rattle.std.specs.Prelude.{◌↔◌, if◌then◌else◌}
use Rattle.vms_history.specs.Common.{PcpuId, Extends, own, begun_in, sum_below}
use Rattle.vms_history.specs.declared.events.Event.{Event}
use Rattle.vms_pcpu_core.specs.declared.steps.PcpuFacts.{PcpuFacts}
use Rattle.vms_pcpu_core.specs.declared.steps.PcpuStep.{PcpuStep}
use Rattle.vms_pcpu_core.specs.declared.steps.PcpuStep.TheVariants.{LoadC, Won, Unlock}
use Rattle.vms_pcpu_core.specs.Histories.{History}
use Rattle.vms_pcpu_core.specs.MadeBetween.{event, MadeBetween}
use Rattle.vms_pcpu_core.specs.Own.{holds_lock, carried}
use Rattle.vms_pcpu_core.specs.Steps.{role}
use Rattle.vms_pcpu_core.specs.Totals.{amount_of, true_total}
use Rattle.vms_pcpu_core.specs.Knowledge.{IsLoad}

-- a number where it is positive, and else 0
abbrev pub rise : ℤ → ℤ
rise (pos n) = pos n
rise (negsuc n) = pos 0

-- the size of a number where it is negative, and else 0
abbrev pub fall : ℤ → ℤ
fall (pos n) = pos 0
fall (negsuc n) = pos (suc n)

-- what callers other than p added to counter j, where of each amount only one part counts: its rise, or its fall
abbrev pub by_others : (ℤ → ℤ) → ℕ → ℕ → History → ℤ
by_others part p j [] = pos 0
by_others part p j (e ∷ h) =
    (if nat_eq e.caller p then pos 0 else part (amount_of j (carried j (own h e.caller)) e.step)) +ℤ
    by_others part p j h

-- the same of what they added from an earlier history to a later one
abbrev pub by_others_between : (ℤ → ℤ) → ℕ → ℕ → History → History → ℤ
by_others_between part p j earlier later = by_others part p j later -ℤ by_others part p j earlier

-- the same part of what each caller other than p carries for counter j
abbrev pub carried_by_others : (ℤ → ℤ) → ℕ → ℕ → History → ℤ
carried_by_others part p j h =
    sum_below (λ q. if nat_eq q p then pos 0 else part (carried j (own h q))) (suc (begun_in role h))

-- what a yes leaves: the true total after the call's own change is past the limit at most by the changes of others that
-- went the same way since the call's first step, and by the amounts that others carried at its load of the count
pub record KeepsLimit (facts : PcpuFacts) (earlier later : History) (p : ℕ) (j : PcpuId) (limit amount : ℤ)
    : Type 0 where
  -- the first step, and what stood before it
  pub first : PcpuStep
  pub begun : History
  pub begins : MadeBetween earlier later p first begun
  pub nothing_before : own begun p ≡ own earlier p
  -- the load of the count, and what stood before it
  pub count : ℤ
  pub loaded : History
  pub loads : MadeBetween begun later p (LoadC j count) loaded
  -- the step that has the amount, what stood before it, and what after it
  pub change : PcpuStep
  pub unchanged : History
  pub changes : MadeBetween loaded later p change unchanged
  pub its_amount : amount_of j.number (carried j.number (own unchanged p)) change ≡ amount
  pub changed : History
  pub after_change : changed ≡ event p change ∷ unchanged
  -- under the lock others carry nothing
  pub rises_locked : holds_lock j.number (own unchanged p) ≡ true → carried_by_others rise p j.number loaded ≡ pos 0
  pub falls_locked : holds_lock j.number (own unchanged p) ≡ true → carried_by_others fall p j.number loaded ≡ pos 0
  pub most : pos 0 <ℤ amount → true_total facts changed j.number ≤ℤ
      (limit +ℤ (by_others_between rise p j.number begun changed +ℤ carried_by_others rise p j.number loaded))
  pub least : amount <ℤ pos 0 →
      (limit -ℤ (by_others_between fall p j.number begun changed +ℤ carried_by_others fall p j.number loaded)) ≤ℤ
      true_total facts changed j.number

-- what a no means: the true total when the lock was won and the amount are past the limit together with the changes of
-- others that went the same way from there to the call's last reading
pub record PassesLimit (facts : PcpuFacts) (earlier later : History) (p : ℕ) (j : PcpuId) (limit amount : ℤ)
    : Type 0 where
  -- what stood before the lock was won, and what after it
  pub free : History
  pub wins : MadeBetween earlier later p (Won j) free
  pub won : History
  pub after_win : won ≡ event p (Won j) ∷ free
  -- the last reading, and what stood before it; the lock was given back next
  pub reading : PcpuStep
  pub is_load : IsLoad reading
  pub last : History
  pub reads : MadeBetween won later p reading last
  pub ends : own later p ≡ event p (Unlock j) ∷ event p reading ∷ own last p
  pub most : pos 0 <ℤ amount →
      limit <ℤ ((true_total facts won j.number +ℤ amount) +ℤ by_others_between rise p j.number won last)
  pub least : amount <ℤ pos 0 →
      ((true_total facts won j.number +ℤ amount) -ℤ by_others_between fall p j.number won last) <ℤ limit

-- from an earlier history to a later one, no caller but p adds an amount to counter j or carries one for it
pub record IsAlone (earlier later : History) (p j : ℕ) : Type 0 where
  pub adds : (e : Event PcpuStep) (h : History) → Extends h earlier → Extends later (e ∷ h) → e.caller ≢ p →
      amount_of j (carried j (own h e.caller)) e.step ≡ pos 0
  pub carries : (h : History) → Extends h earlier → Extends later h → (q : ℕ) → q ≢ p → carried j (own h q) ≡ pos 0

-- a limited addition answers yes exactly where the true total with the amount keeps the limit, and only then changes it
pub record IsExact (facts : PcpuFacts) (earlier later : History) (j : ℕ) (limit amount : ℤ) (answer : Bool)
    : Type 0 where
  pub most : pos 0 <ℤ amount → (answer ≡ true) ↔ ((true_total facts earlier j +ℤ amount) ≤ℤ limit)
  pub least : amount <ℤ pos 0 → (answer ≡ true) ↔ (limit ≤ℤ (true_total facts earlier j +ℤ amount))
  pub total : true_total facts later j ≡ true_total facts earlier j +ℤ (if answer then amount else pos 0)
