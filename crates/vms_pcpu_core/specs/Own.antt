-- What a caller holds and carries, by its own events alone, the newest first.
use Rattle.std.specs.Prelude.{◌≡◌, ℕ, nat_eq, Bool, true, false, ℤ, pos, ◌+ℤ◌, List, [], ◌∷◌, if◌then◌else◌}
use Rattle.vms_history.specs.declared.events.Event.{Event}
use Rattle.vms_pcpu_core.specs.declared.steps.PcpuFacts.{PcpuFacts}
use Rattle.vms_pcpu_core.specs.declared.steps.PcpuStep.{PcpuStep}
use Rattle.vms_pcpu_core.specs.declared.steps.PcpuStep.TheVariants.{Won, TakeL, AddC, Unlock}
use Rattle.vms_pcpu_core.specs.States.{IsPcpu}

-- whether a caller holds the lock of counter j: it won the lock, and hasn't given it back since
abbrev pub holds_lock_after : ℕ → PcpuStep → Bool → Bool
holds_lock_after j (Won i) before = if nat_eq i.number j then true else before
holds_lock_after j (Unlock i) before = if nat_eq i.number j then false else before
holds_lock_after j _ before = before

abbrev pub holds_lock : ℕ → List (Event PcpuStep) → Bool
holds_lock j [] = false
holds_lock j (e ∷ h) = holds_lock_after j e.step (holds_lock j h)

-- what a caller carries for counter j: the local parts that it took, all of which an addition to the shared part puts
-- back
abbrev pub carried_after : ℕ → PcpuStep → ℤ → ℤ
carried_after j (TakeL i c v) before = if nat_eq i.number j then before +ℤ v else before
carried_after j (AddC i a) before = if nat_eq i.number j then pos 0 else before
carried_after j _ before = before

abbrev pub carried : ℕ → List (Event PcpuStep) → ℤ
carried j [] = pos 0
carried j (e ∷ h) = carried_after j e.step (carried j h)

-- a caller holds the lock of no counter
abbrev pub HoldsNoLock : PcpuFacts → List (Event PcpuStep) → Type 0
HoldsNoLock facts h = (j : ℕ) → IsPcpu facts j → holds_lock j h ≡ false
