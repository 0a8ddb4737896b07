-- What a whole history changed, and who holds the locks.
use Rattle.std.specs.Prelude.{ℕ, ◌+◌, nat_eq, Bool, false, ℤ, pos, ◌+ℤ◌, ◌-ℤ◌, List, [], ◌∷◌, if◌then◌else◌, Option}
use Rattle.std.specs.Prelude.{Some, None, unsigned_abs, count_by}
use Rattle.vms_history.specs.Common.{CpuId, is_present, Shape, own, owner_in, sum_below}
use Rattle.vms_history.specs.declared.events.Event.{Event}
use Rattle.vms_pcpu_core.specs.declared.states.PcpuState.{PcpuState}
use Rattle.vms_pcpu_core.specs.declared.steps.PcpuFacts.{PcpuFacts}
use Rattle.vms_pcpu_core.specs.declared.steps.PcpuStep.{PcpuStep}
use Rattle.vms_pcpu_core.specs.declared.steps.PcpuStep.TheVariants.{AddL, Won, AddC, Unlock}
use Rattle.vms_pcpu_core.specs.States.{count_at, local_at}
use Rattle.vms_pcpu_core.specs.Own.{carried}
use Rattle.vms_pcpu_core.specs.Steps.{role}

-- the amount that a step adds to counter j: all of an addition to the local part, and of one to the shared part what it
-- adds beyond what its caller carried
abbrev pub amount_of : ℕ → ℤ → PcpuStep → ℤ
amount_of j carrying (AddL i a) = if nat_eq i.number j then a else pos 0
amount_of j carrying (AddC i a) = if nat_eq i.number j then a -ℤ carrying else pos 0
amount_of j carrying _ = pos 0

-- the sum of the amounts that a history adds to counter j
abbrev pub amounts : ℕ → List (Event PcpuStep) → ℤ
amounts j [] = pos 0
amounts j (e ∷ h) = amount_of j (carried j (own h e.caller)) e.step +ℤ amounts j h

-- the local parts of all CPUs for counter j
abbrev pub locals : Shape → PcpuState → ℕ → ℤ
locals shape s j = sum_below (λ c. local_at s c j) shape.cpus

-- the base and every amount since: what a counter is in truth
abbrev pub true_total : PcpuFacts → List (Event PcpuStep) → ℕ → ℤ
true_total facts h j = (count_at facts.base j +ℤ locals facts.layout facts.base j) +ℤ amounts j h

-- whether the acting pass owns CPU c
abbrev pub is_owned : Option CpuId → ℕ → Bool
is_owned None c = false
is_owned (Some d) c = nat_eq d.number c

-- what a step of a pass that owns `who` spends of the volume of CPU c on counter j
abbrev pub spent_by : Option CpuId → ℕ → ℕ → ℤ → PcpuStep → ℕ
spent_by who c j carrying step = if is_owned who c then unsigned_abs (amount_of j carrying step) else 0

-- the sum of the sizes of the amounts that CPU c added to counter j
abbrev pub spent : List (Event PcpuStep) → ℕ → ℕ → ℕ
spent [] c j = 0
spent (e ∷ h) c j =
    spent_by (owner_in role h e.caller) c j (carried j (own h e.caller)) e.step + spent h c j

-- the caller that holds the lock of counter j: the last that won it, if it hasn't given it back
abbrev pub holder_after : ℕ → ℕ → PcpuStep → Option ℕ → Option ℕ
holder_after p j (Won i) before = if nat_eq i.number j then Some p else before
holder_after p j (Unlock i) before = if nat_eq i.number j then None else before
holder_after p j _ before = before

abbrev pub holder : ℕ → List (Event PcpuStep) → Option ℕ
holder j [] = None
holder j (e ∷ h) = holder_after e.caller j e.step (holder j h)

-- how many CPUs are online or dead
abbrev pub present : PcpuFacts → ℕ
present facts = count_by is_present facts.cpus
