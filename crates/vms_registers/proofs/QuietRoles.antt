-- For other crates too: a step that begins or ends a pass is none that works.
use Rattle.std.proofs.Common.{◌≡◌, ◌≢◌, ℕ, Option}
use Rattle.vms_history.specs.Common.{CpuId, Role, Works, Begins, Ends}

pub begins-differs : (t : Role) (q : ℕ) (who : Option CpuId) → t ≡ Begins q who → t ≢ Works
begins-differs Works q who is same = cc
begins-differs (Begins r w) q who is same = cc
begins-differs (Ends r) q who is same = cc

pub ends-differs : (t : Role) (q : ℕ) → t ≡ Ends q → t ≢ Works
ends-differs Works q is same = cc
ends-differs (Begins r w) q is same = cc
ends-differs (Ends r) q is same = cc
