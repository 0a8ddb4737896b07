-- What is made of states and peaks for each CPU that is online.
use Rattle.std.specs.Prelude.{ℕ, max, nat_eq, Bool, List, length, fold, if◌then◌else◌}
use Rattle.vms_calls.specs.Common.{Header, CpuId, online_from, linux_mark_of, cover_mark_of, Shape, size_at}
use Rattle.vms_calls.specs.Common.{count_below, State, threshold_at, threshold_sets_at, mark_at, cpu_at}
use Rattle.vms_calls.specs.Common.{acknowledged_at, with_threshold, with_mark, is_number, if_present}
use Rattle.vms_plain_control.specs.KnownPeaks.{peak_in, with_peak}

-- the CPUs that are online
abbrev pub online_in : State → List CpuId
online_in s = online_from 0 s.cpu

-- these CPUs get a threshold of place g
abbrev pub with_place_thresholds : ℕ → ℕ → List CpuId → State → State
with_place_thresholds g t cs s = fold (λ now c. with_threshold now c.number g t) s cs

-- their peaks in zone g are at least t
abbrev pub peaks_raised : Shape → ℕ → ℕ → List CpuId → List ℕ → List ℕ
peaks_raised shape g t cs peaks =
    fold (λ now c. with_peak shape c.number g (max t (peak_in shape now c.number g)) now) peaks cs

-- whether CPU c acknowledged the threshold of zone g that stands
abbrev pub is_acknowledged : State → ℕ → ℕ → Bool
is_acknowledged s c g = is_number (acknowledged_at s c g) (threshold_sets_at s c g)

-- their peaks in zone g are the thresholds that stand where these are acknowledged
abbrev pub peaks_lowered : Shape → State → ℕ → List CpuId → List ℕ → List ℕ
peaks_lowered shape s g cs peaks = fold (λ now c.
    if is_acknowledged s c.number g then with_peak shape c.number g (threshold_at s c.number g) now else now) peaks cs

-- what the CPUs that are online or dead may hide of zone g together, by these peaks
abbrev pub hidden_by : Shape → State → List ℕ → ℕ → ℕ
hidden_by shape s peaks g = count_below (λ c. if_present (cpu_at s c) (peak_in shape peaks c g)) shape.cpus

-- the mark that covers it: Linux's mark of the usual threshold, raised where that is needed
abbrev pub mark_by : Header → ℕ → ℕ → State → List ℕ → ℕ
mark_by header g usual s peaks = cover_mark_of (size_at header.sizes g)
    (linux_mark_of (size_at header.sizes g) (length (online_in s)) usual) (hidden_by header.layout s peaks g)

-- a mark is set where it is another than the one that stands
abbrev pub marked : ℕ → ℕ → State → State
marked g mark s = if nat_eq mark (mark_at s g) then s else with_mark s g mark

-- zone g gets threshold t under the mark that covers it
abbrev pub rated : Header → ℕ → ℕ → ℕ → State → List ℕ → State
rated header g usual t s peaks = with_place_thresholds g t (online_in s)
    (marked g (mark_by header g usual s (peaks_raised header.layout g t (online_in s) peaks)) s)
