-- What a caller's own steps come to, by themselves: what it holds and carries after them, and what they add.
use Rattle.std.specs.Prelude.{◌≡◌, ℕ, nat_eq, Bool, false, ℤ, pos, ◌+ℤ◌, List, [], ◌∷◌, if◌then◌else◌, unsigned_abs}
use Rattle.vms_history.specs.Common.{PcpuId, own, after}
use Rattle.vms_history.specs.declared.events.Event.{Event}
use Rattle.vms_pcpu_core.specs.declared.steps.PcpuStep.{PcpuStep}
use Rattle.vms_pcpu_core.specs.Own.{holds_lock, holds_lock_after, carried, carried_after}
use Rattle.vms_pcpu_core.specs.Totals.{amount_of}

-- whether the lock of counter j is held after steps in a row, given whether it was held before
abbrev pub holds_through : ℕ → List PcpuStep → Bool → Bool
holds_through j [] before = before
holds_through j (step ∷ steps) before = holds_through j steps (holds_lock_after j step before)

-- what is carried for counter j after them, given what was carried before
abbrev pub carried_through : ℕ → List PcpuStep → ℤ → ℤ
carried_through j [] before = before
carried_through j (step ∷ steps) before = carried_through j steps (carried_after j step before)

-- an amount as it is, and its size
abbrev pub as_is : ℤ → ℤ
as_is amount = amount

abbrev pub size_of : ℤ → ℤ
size_of amount = pos (unsigned_abs amount)

-- what the steps add to counter j, given what was carried before: the sum of the amounts, or of their sizes
abbrev pub added_through : (ℤ → ℤ) → ℕ → List PcpuStep → ℤ → ℤ
added_through part j [] carrying = pos 0
added_through part j (step ∷ steps) carrying =
    part (amount_of j carrying step) +ℤ added_through part j steps (carried_after j step carrying)

-- the same of all own events of a caller, the newest first
abbrev pub own_added : (ℤ → ℤ) → ℕ → List (Event PcpuStep) → ℤ
own_added part j [] = pos 0
own_added part j (e ∷ h) = part (amount_of j (carried j h) e.step) +ℤ own_added part j h

-- a caller with these own events holds no lock and carries nothing
pub record IsIdle (h : List (Event PcpuStep)) : Type 0 where
  pub no_lock : (j : ℕ) → holds_lock j h ≡ false
  pub nothing_carried : (j : ℕ) → carried j h ≡ pos 0

-- what a caller holds, carries and has added after steps in a row, by what it was before them
pub record GoesByOwnSteps (p : ℕ) (steps : List PcpuStep) (h : List (Event PcpuStep)) : Type 0 where
  pub held : (j : ℕ) → holds_lock j (after p steps h) ≡ holds_through j steps (holds_lock j h)
  pub carrying : (j : ℕ) → carried j (after p steps h) ≡ carried_through j steps (carried j h)
  pub added : (part : ℤ → ℤ) (j : ℕ) →
      own_added part j (after p steps h) ≡ own_added part j h +ℤ added_through part j steps (carried j h)

-- steps that leave no lock held and nothing carried where it was so before, and add this amount to counter j alone
pub record AddsAmount (j : PcpuId) (amount : ℤ) (steps : List PcpuStep) : Type 0 where
  pub no_lock : (i : ℕ) → holds_through i steps false ≡ false
  pub nothing_carried : (i : ℕ) → carried_through i steps (pos 0) ≡ pos 0
  pub amounts : (i : ℕ) → added_through as_is i steps (pos 0) ≡ (if nat_eq j.number i then amount else pos 0)
  pub sizes : (i : ℕ) → added_through size_of i steps (pos 0) ≡ (if nat_eq j.number i then size_of amount else pos 0)

-- what such steps of pass p leave, made between two histories, where p held no lock and carried nothing before
pub record LeavesIdle (earlier later : List (Event PcpuStep)) (p : ℕ) (j : PcpuId) (amount : ℤ) : Type 0 where
  pub idle : IsIdle (own later p)
  pub amounts : (i : ℕ) → own_added as_is i (own later p) ≡
      own_added as_is i (own earlier p) +ℤ (if nat_eq j.number i then amount else pos 0)
  pub sizes : (i : ℕ) → own_added size_of i (own later p) ≡
      own_added size_of i (own earlier p) +ℤ (if nat_eq j.number i then size_of amount else pos 0)
