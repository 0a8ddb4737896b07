-- The largest thresholds that a CPU may still be using, and what all CPUs may hide of a zone's pages.
use Rattle.std.specs.Prelude.{ℕ, suc, max, nat_eq, ◌&&◌, Bool, false, List, [], ◌∷◌, if◌then◌else◌, Option, Some, None}
use Rattle.std.specs.Prelude.{unsigned_abs}
use Rattle.vms_history.specs.Common.{CpuState, Absent, Shape, counter_at, count_below, largest_below}
use Rattle.vms_history.specs.declared.events.Event.{Event}
use Rattle.vms_core.specs.declared.states.State.{State}
use Rattle.vms_core.specs.declared.steps.Facts.{Facts}
use Rattle.vms_core.specs.declared.steps.Step.{Step}
use Rattle.vms_core.specs.declared.steps.Step.TheVariants.{SetT, SetO, LoadA}
use Rattle.vms_core.specs.Cells.{diff_at, threshold_at, cpu_at}

-- how often the threshold of CPU c in place g was set
abbrev pub sets_after : ℕ → ℕ → Step → ℕ → ℕ
sets_after c g (SetT d f t) before = if nat_eq d.number c && nat_eq f.number g then suc before else before
sets_after c g _ before = before

abbrev pub sets : ℕ → ℕ → List (Event Step) → ℕ
sets c g [] = 0
sets c g (e ∷ h) = sets_after c g e.step (sets c g h)

-- the threshold of CPU c in place g
abbrev pub threshold_after : ℕ → ℕ → Step → ℕ → ℕ
threshold_after c g (SetT d f t) before = if nat_eq d.number c && nat_eq f.number g then t else before
threshold_after c g _ before = before

abbrev pub threshold_in : Facts → ℕ → ℕ → List (Event Step) → ℕ
threshold_in facts c g [] = threshold_at facts.base c g
threshold_in facts c g (e ∷ h) = threshold_after c g e.step (threshold_in facts c g h)

-- the number of sets that an acknowledgement names is this one
abbrev pub is_number : Option ℕ → ℕ → Bool
is_number None n = false
is_number (Some x) n = nat_eq x n

-- the largest of a CPU's threshold in a zone and of its differentials there
abbrev pub opening_peak : Shape → State → ℕ → ℕ → ℕ
opening_peak shape s c g =
    max (threshold_at s c g) (largest_below (λ n. unsigned_abs (diff_at s c (counter_at shape g n))) shape.positions)

-- the peak after a step: a threshold that is set may raise it, and where the newest threshold is found acknowledged the
-- peak becomes that threshold
abbrev pub peak_after : ℕ → ℕ → ℕ → ℕ → Step → ℕ → ℕ
peak_after number threshold c g (SetT d f t) before =
    if nat_eq d.number c && nat_eq f.number g then max t before else before
peak_after number threshold c g (LoadA d f x) before =
    if nat_eq d.number c && nat_eq f.number g && is_number x number then threshold else before
peak_after number threshold c g _ before = before

-- the largest threshold that CPU c may still be using in zone g
abbrev pub peak : Facts → ℕ → ℕ → List (Event Step) → ℕ
peak facts c g [] = opening_peak facts.layout facts.base c g
peak facts c g (e ∷ h) = peak_after (sets c g h) (threshold_in facts c g h) c g e.step (peak facts c g h)

-- whether CPU c is online, dead or absent
abbrev pub cpu_after : ℕ → Step → CpuState → CpuState
cpu_after c (SetO d) before = if nat_eq d.number c then Absent else before
cpu_after c _ before = before

abbrev pub cpu_in : Facts → ℕ → List (Event Step) → CpuState
cpu_in facts c [] = cpu_at facts.base c
cpu_in facts c (e ∷ h) = cpu_after c e.step (cpu_in facts c h)

abbrev pub if_present : CpuState → ℕ → ℕ
if_present Absent n = 0
if_present _ n = n

-- what the CPUs that are online or dead may hide of zone g together
abbrev pub peak_sum : Facts → ℕ → List (Event Step) → ℕ
peak_sum facts g h = count_below (λ c. if_present (cpu_in facts c h) (peak facts c g h)) facts.layout.cpus
