-- The zones' thresholds by a rule that goes by the kernel's formula are those of the formula.
use Rattle.std.proofs.Common.{◌≡◌, ℕ, ◌≤◌, List, get_or, arith, subst}
use Rattle.std.specs.Prelude.{Result, Ok, Err, IfOk}
use Rattle.std.proofs.lemmas.List.Elements.{All-get_or}
use Rattle.vms_own_acts.specs.Common.{IsExactly}
use Rattle.vms_world.specs.Common.{AreAnswers, Header, IsHeader, IsValidSize, IsZone, Memory, State, ZoneSize}
use Rattle.vms_world.specs.Common.{bare_pages, count_online, normal_threshold_of, refreshed, size_at}
use Rattle.vms_page_crossings.specs.Crossings.{GoesByKernel}

abbrev no_size : ZoneSize
no_size = record { managed = 0; min = 0; low = 0; high = 0 }

abbrev pub by_kernel : ZoneSize → ℕ → ℕ → Type 0
by_kernel = IsExactly normal_threshold_of

module _ (header : Header) (valid : IsHeader header) (online : ℕ) (least : 1 ≤ online) (most : online ≤ 128)
    (zones : List ℕ) where
  valid-size : (g : ℕ) → IsZone header.layout g → IsValidSize (size_at header.sizes g)
  valid-size g g_in =
      All-get_or IsValidSize header.sizes g no_size (omega (arith, g_in, valid.sizes_length)) valid.sizes_valid

  pub AreAnswers-kernel : (answers : ZoneSize → ℕ → ℕ → Type 0) → GoesByKernel answers
      → AreAnswers header answers online zones → AreAnswers header by_kernel online zones
  AreAnswers-kernel answers exact are = record {
    one_each = are.one_each;
    each = λ g g_in. exact (size_at header.sizes g) online (get_or zones g 0) (valid-size g g_in) least most
        (are.each g g_in);
  }

module _ (header : Header) (valid : IsHeader header) where
  -- the page counters that a run begins with
  abbrev Begins : (ZoneSize → ℕ → ℕ → Type 0) → State → Type 0
  Begins answers s = (zones : List ℕ) × AreAnswers header answers header.layout.cpus zones
      × (s ≡ refreshed header zones (bare_pages header))

  pub first-kernel : (answers : ZoneSize → ℕ → ℕ → Type 0) → GoesByKernel answers → (result : Result State Memory)
      → IfOk result (Begins answers) → IfOk result (Begins by_kernel)
  first-kernel answers exact (Ok s) (zones, are, same) = (
    zones,
    AreAnswers-kernel header valid header.layout.cpus valid.is_layout.cpus_least valid.is_layout.cpus_most zones answers
        exact are,
    same,
  )
  first-kernel answers exact (Err e) is = tt

  -- and those that a refresh makes
  abbrev Refreshes : (ZoneSize → ℕ → ℕ → Type 0) → State → State → Type 0
  Refreshes answers s next = (zones : List ℕ) × AreAnswers header answers (count_online s.cpu) zones
      × (next ≡ refreshed header zones s)

  pub refreshed-kernel : (answers : ZoneSize → ℕ → ℕ → Type 0) → GoesByKernel answers → (up : State)
      → 1 ≤ count_online up.cpu → count_online up.cpu ≤ 128 → (s : State) → s ≡ up → (next : State)
      → Refreshes answers s next → Refreshes by_kernel up next
  refreshed-kernel answers exact up least most s same next refreshes =
      let on : Refreshes answers up next = subst (λ (x : State). Refreshes answers x next) same refreshes in
      (on.0, AreAnswers-kernel header valid (count_online up.cpu) least most on.0 answers exact on.1, on.2)
