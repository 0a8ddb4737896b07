-- For other crates too: what the counters of the world add up to that a run begins with.
use Rattle.std.proofs.Common.{◌≡◌, ℕ, ◌*◌, pos, List, ap, arith}
use Rattle.std.proofs.lemmas.Int.{ints}
use Rattle.vms_world.specs.Common.{Header, IsHeader, cell, diff_at, differentials, event_count, word_at, base_of}
use Rattle.vms_world.specs.Common.{started}
use Rattle.vms_history.proofs.Common.{sum_below-zeros}
use Rattle.vms_core.proofs.Common.{get_or-copies}
use Rattle.vms_report.specs.Common.{event_total, page_total}
use Rattle.vms_world.proofs.Common.{diff-bare}

module _ (header : Header) (zones : List ℕ) where
  pub page-started : IsHeader header → (k : ℕ) → page_total header (started header zones) k ≡ base_of header k
  page-started valid k =
      let none : differentials header.layout (started header zones).pages k ≡ pos 0 =
      sum_below-zeros (λ c. diff_at (started header zones).pages c k) header.layout.cpus
      (λ c c_in. diff-bare header valid c k) in
      omega (arith, ints, none)

  pub event-started : (k : ℕ) → event_total header (started header zones) k ≡ pos 0
  event-started k = sum_below-zeros (λ c. pos (word_at (started header zones).events c k)) header.layout.cpus
      (λ c c_in. ap pos (get_or-copies {X = ℕ} (header.layout.cpus * event_count) (cell event_count c k) 0))
