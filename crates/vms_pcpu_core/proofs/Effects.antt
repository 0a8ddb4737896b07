-- For other crates too: what a step that meets its condition makes of the numbers and locks of a state.
use Rattle.std.proofs.Common.{◌≡◌, ℕ, ◌*◌, true, false, List, length, Option, Some, None, ℤ, pos, ◌+ℤ◌, refl, ap, ◌∙◌}
use Rattle.std.proofs.Common.{length-set}
use Rattle.vms_history.specs.Common.{CpuId, PcpuId, IsCpu, cell}
use Rattle.vms_history.specs.declared.events.Event.{Event}
use Rattle.vms_history.proofs.Common.{get_or-set, get_or-changed, get_or-set_cell, get_or-changed_cell}
use Rattle.vms_pcpu_core.specs.declared.steps.PcpuFacts.{PcpuFacts}
use Rattle.vms_pcpu_core.specs.declared.steps.PcpuStep.{PcpuStep}
use Rattle.vms_pcpu_core.specs.declared.steps.PcpuStep.TheVariants.{AddL, Won, TakeL, AddC, Unlock}
use Rattle.vms_pcpu_core.specs.Common.{LockedState, HasShape, counters_of, count_at, local_at, held_at, IsPcpu, Meets}
use Rattle.vms_pcpu_core.specs.Common.{count_after, local_after, held_after, effect, with_own_added}

HasShape-with_own_added : (facts : PcpuFacts) (who : Option CpuId) (j : PcpuId) (a : ℤ) (s : LockedState)
    → HasShape facts s
    → HasShape facts (with_own_added who j a s)
HasShape-with_own_added facts None j a s shaped = shaped
HasShape-with_own_added facts (Some c) j a s shaped =
    assumption (length-set s.numbers.local (cell (counters_of s.numbers) c.number j.number)
    (local_at s.numbers c.number j.number +ℤ a) ∙ shaped.local)

pub HasShape-effect : (facts : PcpuFacts) (who : Option CpuId) (step : PcpuStep) (s : LockedState) → HasShape facts s
    → HasShape facts (effect facts who step s)
HasShape-effect facts who (AddL j a) s shaped = HasShape-with_own_added facts who j a s shaped
HasShape-effect facts who (Won j) s shaped = assumption (length-set s.held j.number true ∙ shaped.held)
HasShape-effect facts who (TakeL j c v) s shaped =
    assumption (length-set s.numbers.local (cell (counters_of s.numbers) c.number j.number) (pos 0) ∙ shaped.local)
HasShape-effect facts who (AddC j a) s shaped =
    assumption (length-set s.numbers.count j.number (count_at s.numbers j.number +ℤ a) ∙ shaped.count)
HasShape-effect facts who (Unlock j) s shaped = assumption (length-set s.held j.number false ∙ shaped.held)
HasShape-effect facts who _ s shaped = shaped

module _ (facts : PcpuFacts) (h : List (Event PcpuStep)) (s : LockedState) (p : ℕ) (shaped : HasShape facts s) where
  counters-same : counters_of s.numbers ≡ counters_of facts.base
  counters-same = ap length shaped.batch

  locals-full : length s.numbers.local ≡ facts.layout.cpus * counters_of s.numbers
  locals-full = rw counters-same shaped.local

  pub count_at-effect : (who : Option CpuId) (step : PcpuStep) (j : ℕ) → Meets facts h s p step
      → count_at (effect facts who step s).numbers j ≡ count_after j step (count_at s.numbers j)
  count_at-effect who (AddC i a) j meets =
      get_or-changed (λ count. count +ℤ a) s.numbers.count i.number j (pos 0) (rw shaped.count meets.counter)
  count_at-effect None (AddL i a) j meets = refl
  count_at-effect (Some c) (AddL i a) j meets = refl
  count_at-effect who _ j meets = refl

  pub held_at-effect : (who : Option CpuId) (step : PcpuStep) (j : ℕ) → Meets facts h s p step
      → held_at (effect facts who step s) j ≡ held_after j step (held_at s j)
  held_at-effect who (Won i) j meets = get_or-set s.held i.number j true false (rw shaped.held meets.counter)
  held_at-effect who (Unlock i) j meets = get_or-set s.held i.number j false false (rw shaped.held meets.counter)
  held_at-effect None (AddL i a) j meets = refl
  held_at-effect (Some c) (AddL i a) j meets = refl
  held_at-effect who _ j meets = refl

  pub local_at-effect : (who : Option CpuId) (step : PcpuStep) (c j : ℕ)
      → ((d : CpuId) → who ≡ Some d → IsCpu facts.layout d.number)
      → Meets facts h s p step → IsPcpu facts j
      → local_at (effect facts who step s).numbers c j ≡ local_after who c j step (local_at s.numbers c j)
  local_at-effect None (AddL i a) c j owned meets j_in = refl
  local_at-effect (Some d) (AddL i a) c j owned meets j_in =
      get_or-changed_cell (counters_of s.numbers) facts.layout.cpus (λ local. local +ℤ a) s.numbers.local
      d.number i.number c j (pos 0) locals-full (owned d refl) (rw counters-same meets.counter) (rw counters-same j_in)
  local_at-effect who (TakeL i d v) c j owned meets j_in =
      get_or-set_cell (counters_of s.numbers) facts.layout.cpus s.numbers.local d.number i.number c j (pos 0) (pos 0)
      locals-full meets.cpu (rw counters-same meets.counter) (rw counters-same j_in)
  local_at-effect who _ c j owned meets j_in = refl
