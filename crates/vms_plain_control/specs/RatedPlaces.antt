-- What the calls that set thresholds and marks make of each place: its thresholds, its mark, how often these were set,
-- and the peaks. Whatever else a state has stays, as `SetsOnly` says.
use Rattle.std.specs.Prelude.{◌≡◌, ◌≢◌, ℕ, suc, ◌&&◌, max, nat_eq, Bool, true, false, if◌then◌else◌, List, length}
use Rattle.std.specs.Prelude.{slice_index_or}
use Rattle.vms_calls.specs.Common.{Header, PlaceId, ZoneSize, Choice, ByNormal, IsCpu, IsNode, IsZone, Shape, State}
use Rattle.vms_calls.specs.Common.{count_below, cover_mark_of, cpu_at, if_present, is_online, largest_on, linux_mark_of}
use Rattle.vms_calls.specs.Common.{mark_at, mark_sets_at, node_number, node_of_zone, size_at, threshold_at}
use Rattle.vms_calls.specs.Common.{threshold_sets_at}
use Rattle.vms_calls.specs.declared.answers.Balance.{Balance}
use Rattle.vms_calls.specs.declared.answers.Balance.TheVariants.{No, Yes}
use Rattle.vms_plain_control.specs.KnownPeaks.{peak_in}
use Rattle.vms_plain_control.specs.OnlineCpus.{is_acknowledged, online_in}

-- the peak of CPU c in zone g after a look: the threshold that stands if the CPU is online and acknowledged it
abbrev pub peak_found : Shape → State → List ℕ → ℕ → ℕ → ℕ
peak_found shape s peaks c g =
    if is_online (cpu_at s c) && is_acknowledged s c g then threshold_at s c g else peak_in shape peaks c g

-- and then at least a threshold t that the CPU gets if it is online
abbrev pub peak_given : Shape → State → List ℕ → ℕ → ℕ → ℕ → ℕ
peak_given shape s peaks t c g =
    if is_online (cpu_at s c) then max t (peak_found shape s peaks c g) else peak_found shape s peaks c g

-- the mark of zone g with a threshold t: Linux's mark of the usual threshold, raised where that is needed to cover the
-- peaks of the CPUs that are online or dead, in sum
abbrev pub mark_given : Header → ℕ → ℕ → ℕ → State → List ℕ → ℕ
mark_given header g usual t s peaks = cover_mark_of (size_at header.sizes g)
    (linux_mark_of (size_at header.sizes g) (length (online_in s)) usual)
    (count_below (λ c. if_present (cpu_at s c) (peak_given header.layout s peaks t c g)) header.layout.cpus)

-- no CPU gets a threshold of place g
pub record KeepsThresholds (shape : Shape) (g : ℕ) (s next : State) : Type 0 where
  pub pages : (c : ℕ) → IsCpu shape c → threshold_at next c g ≡ threshold_at s c g
  pub numbers : (c : ℕ) → IsCpu shape c → threshold_sets_at next c g ≡ threshold_sets_at s c g

-- the CPUs that are online get threshold t of place g, and so it was set once more on them; the others keep theirs
pub record GetsThreshold (shape : Shape) (g t : ℕ) (s next : State) : Type 0 where
  pub pages : (c : ℕ) → IsCpu shape c →
      threshold_at next c g ≡ (if is_online (cpu_at s c) then t else threshold_at s c g)
  pub numbers : (c : ℕ) → IsCpu shape c → threshold_sets_at next c g
      ≡ (if is_online (cpu_at s c) then suc (threshold_sets_at s c g) else threshold_sets_at s c g)

-- zone g keeps its mark
pub record KeepsMark (g : ℕ) (s next : State) : Type 0 where
  pub pages : mark_at next g ≡ mark_at s g
  pub number : mark_sets_at next g ≡ mark_sets_at s g

-- zone g has this mark, which was set if it is another than before
pub record GetsMark (g mark : ℕ) (s next : State) : Type 0 where
  pub pages : mark_at next g ≡ mark
  pub number : mark_sets_at next g
      ≡ (if nat_eq mark (mark_at s g) then mark_sets_at s g else suc (mark_sets_at s g))

-- zone g is as it was
pub record KeepsZone (shape : Shape) (g : ℕ) (s : State) (peaks : List ℕ) (next : State) (known : List ℕ)
    : Type 0 where
  pub thresholds : KeepsThresholds shape g s next
  pub mark : KeepsMark g s next
  pub peaks_stay : (c : ℕ) → IsCpu shape c → peak_in shape known c g ≡ peak_in shape peaks c g

-- zone g is looked at and gets no threshold
pub record SparesZone (shape : Shape) (g : ℕ) (s : State) (peaks : List ℕ) (next : State) (known : List ℕ)
    : Type 0 where
  pub thresholds : KeepsThresholds shape g s next
  pub mark : KeepsMark g s next
  pub peaks_found : (c : ℕ) → IsCpu shape c → peak_in shape known c g ≡ peak_found shape s peaks c g

-- zone g is looked at and gets threshold t, which the call may choose with a usual one, and the mark with them
pub record RatesZone (header : Header) (Chooses : Choice) (g t : ℕ) (s : State) (peaks : List ℕ) (next : State)
    (known : List ℕ) : Type 0 where
  pub usual : ℕ
  pub chosen : Chooses (size_at header.sizes g) (length (online_in s)) t usual
  pub thresholds : GetsThreshold header.layout g t s next
  pub mark : GetsMark g (mark_given header g usual t s peaks) s next
  pub peaks_given : (c : ℕ) → IsCpu header.layout c →
      peak_in header.layout known c g ≡ peak_given header.layout s peaks t c g

-- zone g alone is visited: it gets threshold t if it isn't spared
pub record VisitsZone (header : Header) (Chooses : Choice) (is_spared : Bool) (g t : ℕ) (s : State) (peaks : List ℕ)
    (next : State) (known : List ℕ) : Type 0 where
  pub rated : is_spared ≡ false → RatesZone header Chooses g t s peaks next known
  pub spared : is_spared ≡ true → SparesZone header.layout g s peaks next known
  pub other_zones : (f : ℕ) → IsZone header.layout f → f ≢ g → KeepsZone header.layout f s peaks next known
  pub nodes : (f : ℕ) → IsNode header.layout f → KeepsThresholds header.layout f s next

-- a call on the zones of a node: zone g is rated if it is one of them and has a mark, and spared if it has none
pub record RatesZoneOn (header : Header) (Chooses : Choice) (node g : ℕ) (s : State) (peaks : List ℕ) (next : State)
    (known : List ℕ) : Type 0 where
  pub rated : node_of_zone header.layout g ≡ node → mark_at s g ≢ 0 →
      (t : ℕ) × RatesZone header Chooses g t s peaks next known
  pub spared : node_of_zone header.layout g ≡ node → mark_at s g ≡ 0 →
      SparesZone header.layout g s peaks next known
  pub elsewhere : node_of_zone header.layout g ≢ node → KeepsZone header.layout g s peaks next known

-- this holds of every zone, and nodes keep their thresholds
pub record RatesPlaces (header : Header) (Chooses : Choice) (n : PlaceId) (s : State) (peaks : List ℕ) (next : State)
    (known : List ℕ) : Type 0 where
  pub zones : (g : ℕ) → IsZone header.layout g →
      RatesZoneOn header Chooses (node_number header.layout n) g s peaks next known
  pub nodes : (f : ℕ) → IsNode header.layout f → KeepsThresholds header.layout f s next

-- a refresh: every zone is rated, and every node gets the largest of the thresholds of its zones
pub record RefreshesPlaces (header : Header) (normal : ZoneSize → ℕ → ℕ → Type 0) (s : State) (peaks : List ℕ)
    (next : State) (known : List ℕ) : Type 0 where
  pub thresholds : List ℕ
  pub one_each : length thresholds ≡ length header.layout.zones
  pub zones : (g : ℕ) → IsZone header.layout g →
      RatesZone header (ByNormal normal) g (slice_index_or thresholds g 0) s peaks next known
  pub nodes : (f : ℕ) → IsNode header.layout f → GetsThreshold header.layout f
      (largest_on header.layout thresholds (node_number header.layout (record { number = f }))) s next

-- what follows a balance test: normal thresholds after a yes, and nothing after a no
abbrev pub SettlesPlaces : Header → (normal : ZoneSize → ℕ → ℕ → Type 0) → PlaceId → Balance → State → List ℕ → State
    → List ℕ → Type 0
SettlesPlaces header normal n (Yes _ _) s peaks next known = RatesPlaces header (ByNormal normal) n s peaks next known
SettlesPlaces header normal n No s peaks next known = (next ≡ s) × (known ≡ peaks)
