-- What is known where threads begin to work.
use Rattle.std.specs.Prelude.{◌≡◌, ℕ, ◌<◌, All}
use Rattle.vms_calls.specs.Common.{Header, IsCounter, IsZone, Facts}
use Rattle.vms_bench_base.specs.declared.tables.Started.{Started}
use Rattle.vms_bench_base.specs.ReadyPasses.{IsReady}

-- the facts are of this header's layout and sizes
pub record IsHeaderOf (facts : Facts) (header : Header) : Type 0 where
  pub layout : header.layout ≡ facts.layout
  pub sizes : header.sizes ≡ facts.sizes

-- every pass may begin any call, on the first eight counters, of which the first zone has the first
pub record IsStarted (started : Started) : Type 0 where
  pub header : IsHeaderOf started.table.facts started.header
  pub passes : All (IsReady started.table) started.passes.items
  pub zone : IsZone started.table.facts.layout 0
  pub counters : (k : ℕ) → k < 8 → IsCounter started.table.facts.layout k
