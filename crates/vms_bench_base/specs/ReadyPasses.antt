-- Passes that may begin any call, and CPUs that no pass has owned yet.
use Rattle.std.specs.Prelude.{◌≡◌, ℕ, ◌≤◌, Some}
use Rattle.vms_calls.specs.Common.{CpuId, IsCpu, own, Facts, CarriesNothing, History, role, spent}
use Rattle.vms_seats.specs.Common.{Shared, IsFrom}
use Rattle.vms_words.specs.Common.{OwningPass}
use Rattle.vms_bench_base.specs.Beginnings.{OwnsBelow}

-- a pass of this table that owns a CPU of the layout and carries nothing
pub record IsReady (table : Shared Facts) (pass : OwningPass) : Type 0 where
  pub of : IsFrom pass.pass table
  pub cpu : CpuId
  pub owns : pass.pass.cpu ≡ Some cpu
  pub known : IsCpu table.facts.layout cpu.number
  pub idle : CarriesNothing table.facts.layout (own pass.pass.seen pass.pass.number)

-- no pass has owned a CPU from this number on, and these CPUs have changed nothing
pub record IsUnused (least : ℕ) (h : History) : Type 0 where
  pub owners : OwnsBelow role least h
  pub unspent : (c k : ℕ) → least ≤ c → spent h c k ≡ 0
