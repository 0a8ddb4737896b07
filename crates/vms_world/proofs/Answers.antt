-- For other crates too: what a rule answers for the zones are thresholds, where some CPU is online.
use Rattle.std.proofs.Common.{◌≡◌, ℕ, ◌+◌, ◌<◌, ◌≤◌, List, length, get_or, All, ap, arith, cond}
use Rattle.std.proofs.lemmas.List.Elements.{All-get_or}
use Rattle.std.proofs.lemmas.List.Sums.{count_by_more_yes, count_by-le-length, sum_by-take-le}
use Rattle.vms_calls.specs.Common.{Header, CpuState, Absent, ZoneSize, HasOnline, is_online, Shape, IsLayout}
use Rattle.vms_calls.specs.Common.{IsValidSize, size_at, GivesThresholds}
use Rattle.vms_world.specs.Common.{AreAnswers, count_online}
use Rattle.vms_world.proofs.PlaceThresholds.{AreThresholds}

-- one of the CPUs is online, and there are at most 128
pub count_online-least : (shape : Shape) (states : List CpuState) → length states ≡ shape.cpus → HasOnline shape states
    → 1 ≤ count_online states
count_online-least shape states one_each (c, c_in, runs) = omega (
  arith,
  count_by_more_yes is_online states c Absent (omega (arith, one_each)) (ap is_online runs),
  sum_by-take-le (λ x. cond (is_online x) 1 0) states (c + 1),
)

pub count_online-most : (shape : Shape) (states : List CpuState) → IsLayout shape → length states ≡ shape.cpus
    → count_online states ≤ 128
count_online-most shape states layout one_each =
    omega (arith, count_by-le-length is_online states, one_each, layout.cpus_most)

abbrev no_size : ZoneSize
no_size = record { managed = 0; min = 0; low = 0; high = 0 }

module _ (header : Header) (one_size_each : length header.sizes ≡ length header.layout.zones)
    (sizes : All IsValidSize header.sizes) (answers : ZoneSize → ℕ → ℕ → Type 0) (gives : GivesThresholds answers)
    (online : ℕ) (least : 1 ≤ online) (most : online ≤ 128) (zones : List ℕ)
    (are : AreAnswers header answers online zones) where
  pub AreThresholds-answers : AreThresholds header.layout zones
  AreThresholds-answers = record {
    least = λ g g_in. (in_range g g_in).0;
    most = λ g g_in. (in_range g g_in).1;
  }
    where
      in_range : (g : ℕ) → g < length header.layout.zones → (1 ≤ get_or zones g 0) × (get_or zones g 0 ≤ 125)
      in_range g g_in = gives (size_at header.sizes g) online (get_or zones g 0)
          (All-get_or IsValidSize header.sizes g no_size (omega (arith, one_size_each)) sizes) least most
          (are.each g g_in)
