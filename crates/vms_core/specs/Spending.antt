-- What each caller's own events spend.
use Rattle.std.specs.Prelude.{◌≡◌, ℕ, suc, nat_eq, Bool, false, pos, if◌then◌else◌, Option, Some, None}
use Rattle.vms_history.specs.Common.{CpuId, own, total, owner_in, begun_in, sum_below}
use Rattle.vms_core.specs.declared.steps.Facts.{Facts}
use Rattle.vms_core.specs.Pages.{History}
use Rattle.vms_core.specs.Steps.{role}
use Rattle.vms_core.specs.Totals.{change_size, spent}

-- whether a pass that owns `who` owns CPU c
abbrev pub is_owner : Option CpuId → ℕ → Bool
is_owner (Some d) c = nat_eq d.number c
is_owner None c = false

-- what a CPU spent on a counter is what the own events of its owners changed the counter by
abbrev pub SumsSpending : History → Type 0
SumsSpending h = (c k : ℕ) → pos (spent h c k)
    ≡ sum_below (λ p. if is_owner (owner_in role h p) c then total (change_size k) (own h p) else pos 0)
    (suc (begun_in role h))

-- what all CPUs spent on a counter is what all steps changed it by
abbrev pub SumsChanges : Facts → History → Type 0
SumsChanges facts h = (k : ℕ) →
    total (change_size k) h ≡ sum_below (λ c. pos (spent h c k)) facts.layout.cpus
