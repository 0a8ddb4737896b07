-- What the control pass keeps of thresholds, marks, the CPUs' states and the peaks, and what each step makes of it.
use Rattle.std.specs.Prelude.{◌≡◌, ℕ, ◌+◌, ◌*◌, nat_lt, max, Bool, length, slice_index_or, slice_set, Option, Some}
use Rattle.std.specs.Prelude.{None, if◌then◌else◌}
use Rattle.vms_calls.specs.Common.{state_at, Absent, Shape, IsCpu, IsPlace, IsZone, cell, place_count, IsFree}
use Rattle.vms_calls.specs.Common.{count_below, largest_below, Facts, Step, SetT, SetM, SetO, LoadA, State}
use Rattle.vms_calls.specs.Common.{threshold_at, threshold_sets_at, mark_sets_at, cpu_at, pages, History, state_after}
use Rattle.vms_calls.specs.Common.{if_present, is_number, peak, role}
use Rattle.vms_seats.specs.Common.{Pass, IsLive}
use Rattle.vms_words.specs.declared.kept.Settings.{Settings}

-- the largest number of times that one threshold or one mark was set
abbrev pub largest_sets : Shape → State → ℕ
largest_sets shape s =
    max (largest_below (λ c. largest_below (λ g. threshold_sets_at s c g) (place_count shape)) shape.cpus)
    (largest_below (λ g. mark_sets_at s g) (length shape.zones))

-- the peak of a CPU in a zone, a threshold, and how often it was set, as they are kept
abbrev pub kept_peak : Shape → Settings → ℕ → ℕ → ℕ
kept_peak shape kept c g = slice_index_or kept.peaks (cell (length shape.zones) c g) 0

abbrev pub kept_threshold : Shape → Settings → ℕ → ℕ → ℕ
kept_threshold shape kept c g = slice_index_or kept.thresholds (cell (place_count shape) c g) 0

abbrev pub kept_sets : Shape → Settings → ℕ → ℕ → ℕ
kept_sets shape kept c g = slice_index_or kept.threshold_sets (cell (place_count shape) c g) 0

-- what the CPUs that are online or dead may hide of a zone together, by what is kept
abbrev pub kept_sum : Shape → Settings → ℕ → ℕ
kept_sum shape kept g = count_below (λ c. if_present (state_at kept.cpus c) (kept_peak shape kept c g)) shape.cpus

-- there is a number for each CPU and zone, CPU and place, zone, and CPU
pub record IsKept (shape : Shape) (kept : Settings) : Type 0 where
  pub peaks : length kept.peaks ≡ shape.cpus * length shape.zones
  pub thresholds : length kept.thresholds ≡ shape.cpus * place_count shape
  pub threshold_sets : length kept.threshold_sets ≡ shape.cpus * place_count shape
  pub mark_sets : length kept.mark_sets ≡ length shape.zones
  pub cpus : length kept.cpus ≡ shape.cpus

-- what is kept is what stands after the history
pub record KeepsSettings (facts : Facts) (h : History) (kept : Settings) : Type 0 where
  pub is_kept : IsKept facts.layout kept
  pub peaks : (c g : ℕ) → IsCpu facts.layout c → IsZone facts.layout g →
      kept_peak facts.layout kept c g ≡ peak facts c g h
  pub thresholds : (c g : ℕ) → IsCpu facts.layout c → IsPlace facts.layout g →
      kept_threshold facts.layout kept c g ≡ threshold_at (state_after facts h) c g
  pub threshold_sets : (c g : ℕ) → IsCpu facts.layout c → IsPlace facts.layout g →
      kept_sets facts.layout kept c g ≡ threshold_sets_at (state_after facts h) c g
  pub mark_sets : (g : ℕ) → IsZone facts.layout g →
      slice_index_or kept.mark_sets g 0 ≡ mark_sets_at (state_after facts h) g
  pub cpus : (c : ℕ) → IsCpu facts.layout c → state_at kept.cpus c ≡ cpu_at (state_after facts h) c
  pub largest : kept.largest_sets ≡ largest_sets facts.layout (state_after facts h)

-- what is kept after a threshold was set. One of a zone may raise the peak
abbrev pub with_kept_threshold : Shape → ℕ → ℕ → ℕ → Settings → Settings
with_kept_threshold shape c g t kept =
    let number = kept_sets shape kept c g + 1 in
    record kept {
      peaks = if nat_lt g (length shape.zones)
          then slice_set kept.peaks (cell (length shape.zones) c g) (max t (kept_peak shape kept c g))
          else kept.peaks;
      thresholds = slice_set kept.thresholds (cell (place_count shape) c g) t;
      threshold_sets = slice_set kept.threshold_sets (cell (place_count shape) c g) number;
      largest_sets = max number kept.largest_sets;
    }

-- what is kept after a mark was set
abbrev pub with_kept_mark : ℕ → Settings → Settings
with_kept_mark g kept =
    let number = slice_index_or kept.mark_sets g 0 + 1 in
    record kept {
      mark_sets = slice_set kept.mark_sets g number;
      largest_sets = max kept.largest_sets number;
    }

-- what is kept after a load of what a CPU acknowledged. Where that is the newest threshold, it is the peak
abbrev pub with_kept_peak : Shape → ℕ → ℕ → Bool → Settings → Settings
with_kept_peak shape c g newest kept = record kept {
  peaks = if newest
      then slice_set kept.peaks (cell (length shape.zones) c g) (kept_threshold shape kept c g)
      else kept.peaks;
}

-- what is kept after a step
abbrev pub kept_after : Shape → Step → Settings → Settings
kept_after shape (SetT c g t) kept = with_kept_threshold shape c.number g.number t kept
kept_after shape (SetM g m) kept = with_kept_mark g.number kept
kept_after shape (SetO c) kept = record kept { cpus = slice_set kept.cpus c.number Absent }
kept_after shape (LoadA c g x) kept =
    with_kept_peak shape c.number g.number (is_number x (kept_sets shape kept c.number g.number)) kept
kept_after shape _ kept = kept

-- a pass that lives and owns no CPU, with what it keeps
pub record IsControlPass (pass : Pass Facts Step) (kept : Settings) : Type 0 where
  pub live : IsLive pages pass
  pub none : pass.cpu ≡ None
  pub knows : KeepsSettings pass.facts pass.seen kept

-- while no control pass lives, the main pass keeps what the next one begins with
abbrev pub IsMainPass : Pass Facts Step → Option Settings → Type 0
IsMainPass main kept =
    IsFree role main.seen None → (now : Settings) × (kept ≡ Some now) × KeepsSettings main.facts main.seen now
