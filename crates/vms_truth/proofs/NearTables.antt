-- What a world tells of events and of percpu counters, beside what these add up to.
use Rattle.std.proofs.Common.{◌≡◌, ℕ, ◌≤◌, ◌-ℤ◌, List, [], ◌++◌, length, ap, subst, ◌∙◌, ◌*◌, arith, unsigned_abs}
use Rattle.std.specs.Prelude.{count_by, slice_index_or}
use Rattle.std.proofs.lemmas.Int.{ints}
use Rattle.std.proofs.lemmas.List.{length-map}
use Rattle.vms_world.specs.Common.{Decl, Header, IsDeclared, IsEvent, IsWorldOf, PcpuFacts, count_at, is_present}
use Rattle.vms_world.specs.Common.{pcpu_facts}
use Rattle.vms_pcpu_core.specs.Histories.{History, IsLegal}
use Rattle.vms_pcpu_core.specs.Laws.{KeepsLaws}
use Rattle.vms_pcpu_core.specs.States.{batch_at}
use Rattle.vms_truth.specs.WorldTruth.{IsNearByBatches, IsTotalWithoutDead, batch_of, total_of_percpu_in}
use Rattle.vms_truth.proofs.EventWords.{online-words}
use Rattle.vms_world.specs.declared.worlds.World.{World}

module _ (header : Header) (w : World) (of : IsWorldOf header w) where
  pub events-told : (k : ℕ) → IsEvent k → IsTotalWithoutDead header w k
  events-told k k_in = online-words header.layout w.pages.cpu w.events k of.event_base.one_state_each
      (λ c c_in absent. of.event_base.absent c k c_in absent k_in)

  pub percpu-near : ((facts : PcpuFacts) (more h : History) → IsLegal facts (more ++ h) → KeepsLaws facts h) → (j : ℕ)
      → IsDeclared header j → IsNearByBatches header w j
  percpu-near laws-kept j j_in =
      let many : length w.counters.batch ≡ length header.counters =
      ap (λ (xs : List ℕ). length xs) of.batches ∙ length-map header.counters (λ (d : Decl). d.batch) in
      let drift = (laws-kept (pcpu_facts header w) [] [] of.pcpu_base).drift j (omega (arith, many, j_in)) in
      let batch : batch_at w.counters j ≡ batch_of header j = ap (λ (xs : List ℕ). slice_index_or xs j 0) of.batches in
      subst (λ (b : ℕ). unsigned_abs (count_at w.counters j -ℤ total_of_percpu_in header w j)
      ≤ b * count_by is_present w.pages.cpu) batch (omega (arith, ints, drift))
