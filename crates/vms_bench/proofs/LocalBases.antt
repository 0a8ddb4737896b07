-- Zeros, with every CPU online and the same batch for each counter, are a base of the percpu counters.
use Rattle.std.proofs.Common.{◌≡◌, ℕ, ◌*◌, ◌<◌, ℤ, pos, unsigned_abs, List, length, replicate, ap, sym, ◌∙◌, arith}
use Rattle.std.proofs.lemmas.List.{get_or-replicate, length-replicate}
use Rattle.vms_calls.specs.Common.{CpuState, Online, Absent, Shape, IsLayout, cell}
use Rattle.vms_core.proofs.Common.{get_or-copies}
use Rattle.vms_pcpu_core.specs.declared.steps.PcpuFacts.{PcpuFacts}
use Rattle.vms_pcpu_core.specs.Common.{IsBase, batch_at, count_at, local_at, counters_of}
use Rattle.vms_bench.specs.Common.{AreOpen}

module _ (shape : Shape) (cpus : List CpuState) (batches : List ℕ) (counts locals : List ℤ) (layout : IsLayout shape)
    (number : shape.cpus ≡ 64) (online : cpus ≡ replicate 64 Online) (same : batches ≡ replicate 8 65536)
    (no_count : counts ≡ replicate 8 (pos 0)) (no_local : locals ≡ replicate 512 (pos 0)) where
  abbrev facts : PcpuFacts
  facts = record { layout = shape; cpus = cpus; base = record { batch = batches; count = counts; local = locals } }

  eight_counters : counters_of facts.base ≡ 8
  eight_counters = ap length same ∙ length-replicate {A = ℕ} 8 65536

  pub AreOpen-all : AreOpen facts
  AreOpen-all = record {
    eight = eight_counters;
    online = λ c below. (omega (arith, number, below), rw online (get_or-replicate 64 c Online Absent below));
  }

  batch_is : (j : ℕ) → j < counters_of facts.base → batch_at facts.base j ≡ 65536
  batch_is j j_in = rw same (get_or-replicate 8 j 65536 0 (omega (arith, eight_counters, j_in)))

  zero_count : (j : ℕ) → count_at facts.base j ≡ pos 0
  zero_count j = rw no_count (get_or-copies {X = ℤ} 8 j (pos 0))

  zero_local : (c j : ℕ) → local_at facts.base c j ≡ pos 0
  zero_local c j = rw no_local (get_or-copies {X = ℤ} 512 (cell (counters_of facts.base) c j) (pos 0))

  pub IsBase-zeros : IsBase facts
  IsBase-zeros = record {
    layout = layout;
    lengths = record {
      one_state_each = ap length online ∙ length-replicate 64 Online ∙ sym number;
      one_count_each = ap length no_count ∙ length-replicate {A = ℤ} 8 (pos 0) ∙ sym eight_counters;
      one_local_each = ap length no_local ∙ length-replicate {A = ℤ} 512 (pos 0)
          ∙ ap (λ n. n * 8) (sym number) ∙ ap (λ n. shape.cpus * n) (sym eight_counters);
    };
    some_online = (0, layout.cpus_least, rw online (get_or-replicate 64 0 Online Absent (omega arith)));
    counters = λ j j_in. record {
      batch_least = let is = batch_is j j_in in omega (arith, is);
      batch_most = let is = batch_is j j_in in omega (arith, is);
      count = let none = ap unsigned_abs (zero_count j) in omega (arith, none);
    };
    locals = λ c c_in j j_in. record {
      within = let none = ap unsigned_abs (zero_local c j) in omega (arith, none);
      absent = λ gone. zero_local c j;
    };
  }
