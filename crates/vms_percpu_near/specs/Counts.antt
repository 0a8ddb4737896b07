-- How near to the true total a shared part stands.
use Rattle.std.specs.Prelude.{◌≡◌, ℕ, ◌*◌, ◌<◌, ◌≤◌, ◌-ℤ◌, length, unsigned_abs}
use Rattle.vms_history.specs.Common.{online_from}
use Rattle.vms_pcpu_core.specs.declared.steps.PcpuFacts.{PcpuFacts}
use Rattle.vms_pcpu_core.specs.Common.{History, IsLegal, IsPcpu, batch_at, count_at, numbers_after, true_total, unknown}
use Rattle.vms_percpu_near.specs.Adds.{AddsCarryNothing}

-- the shared part of each counter is off from the true total by at most a batch for each CPU that is online or dead
abbrev pub CountsAreNear : PcpuFacts → History → Type 0
CountsAreNear facts h = (j : ℕ) → IsPcpu facts j →
    unsigned_abs (count_at (numbers_after facts h) j -ℤ true_total facts h j) ≤ unknown facts j

-- in some history a counter is off by as much, which is more than a batch for each CPU that is online
abbrev pub CountIsFarOff : Type 0
CountIsFarOff = (facts : PcpuFacts) × (h : History) × (j : ℕ) × IsLegal facts h × AddsCarryNothing h ×
    IsPcpu facts j × (unsigned_abs (count_at (numbers_after facts h) j -ℤ true_total facts h j) ≡ unknown facts j) ×
    (batch_at facts.base j * length (online_from 0 facts.cpus) < unknown facts j)
