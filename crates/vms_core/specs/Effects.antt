-- What a step makes of single numbers of a state.
use Rattle.std.specs.Prelude.{ℕ, suc, nat_eq, ◌&&◌, ℤ, pos, ◌+ℤ◌, if◌then◌else◌, Option, Some}
use Rattle.vms_history.specs.Common.{CpuId, group_of}
use Rattle.vms_core.specs.declared.steps.Step.{Step}
use Rattle.vms_core.specs.declared.steps.Step.TheVariants.{Put, AddG, AddS, Take, SetM, SetA}
use Rattle.vms_core.specs.Cells.{entry}
use Rattle.vms_core.specs.Changes.{differential_after}

-- the differential of CPU c for counter k after a step of a pass that owns `who`
abbrev pub diff_after : Option CpuId → ℕ → ℕ → Step → ℤ → ℤ
diff_after (Some d) c k (Put l w t delta how) before =
    if nat_eq d.number c && nat_eq l.number k then differential_after how t (entry w.values l.number) delta else before
diff_after who c k (Take d j w) before =
    if nat_eq d.number c && nat_eq j.number (group_of k) then pos 0 else before
diff_after who c k _ before = before

-- the global value of counter k after a step
abbrev pub value_after : ℕ → Step → ℤ → ℤ
value_after k (AddG l a) before = if nat_eq l.number k then before +ℤ a else before
value_after k _ before = before

-- the system-wide value of item i after a step
abbrev pub system_after : ℕ → Step → ℤ → ℤ
system_after i (AddS l a) before = if nat_eq l.number i then before +ℤ a else before
system_after i _ before = before

-- the drift mark of zone g after a step, and how often it was set
abbrev pub mark_after : ℕ → Step → ℕ → ℕ
mark_after g (SetM f m) before = if nat_eq f.number g then m else before
mark_after g _ before = before

abbrev pub mark_sets_after : ℕ → Step → ℕ → ℕ
mark_sets_after g (SetM f m) before = if nat_eq f.number g then suc before else before
mark_sets_after g _ before = before

-- what CPU c acknowledged last of zone g, after a step of a pass that owns `who`; no node's threshold is acknowledged
abbrev pub acknowledged_after : Option CpuId → ℕ → ℕ → Step → Option ℕ → Option ℕ
acknowledged_after (Some d) c g (SetA f a) before = if nat_eq d.number c && nat_eq f.number g then Some a else before
acknowledged_after who c g _ before = before
