-- What is known of the percpu counters before threads add.
use Rattle.std.specs.Prelude.{◌≡◌, ℕ, ◌<◌, ◌≤◌, Some}
use Rattle.vms_pcpu_core.specs.declared.steps.PcpuFacts.{PcpuFacts}
use Rattle.vms_pcpu_core.specs.Common.{History, MayOwn, counters_of, role, spent}
use Rattle.vms_bench_base.specs.Common.{OwnsBelow}

-- there are eight counters, and a pass may own each of the 64 CPUs
pub record AreOpen (facts : PcpuFacts) : Type 0 where
  pub eight : counters_of facts.base ≡ 8
  pub online : (c : ℕ) → c < 64 → MayOwn facts (Some (record { number = c }))

-- no pass has owned a CPU from this number on, and these CPUs have added nothing
pub record IsUnused (least : ℕ) (h : History) : Type 0 where
  pub owners : OwnsBelow role least h
  pub unspent : (c j : ℕ) → least ≤ c → spent h c j ≡ 0
