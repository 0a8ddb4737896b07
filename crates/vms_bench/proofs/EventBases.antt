-- Words of zeros, with every CPU online, are a base of the event counters.
use Rattle.std.proofs.Common.{◌≡◌, ℕ, ◌^◌, ◌<◌, ◌≤◌, ℤ, pos, ◌≤ℤ◌, List, length, get_or, replicate, ap, sym, ◌∙◌, subst}
use Rattle.std.proofs.Common.{arith, ⊎_elim}
use Rattle.std.proofs.lemmas.Bool.{cases_lt}
use Rattle.std.proofs.lemmas.Int.{ints}
use Rattle.std.proofs.lemmas.List.{get_or_past, get_or-replicate, length-replicate}
use Rattle.vms_calls.specs.Common.{CpuState, Online, Absent, Shape, IsLayout, cell}
use Rattle.vms_history.proofs.Common.{sum_below-zeros}
use Rattle.vms_event_core.specs.declared.steps.EventFacts.{EventFacts}
use Rattle.vms_event_core.specs.Common.{IsBase, event_count, word_at}
use Rattle.vms_bench.specs.Common.{AreOnline}

-- each entry of a list of copies is the copy, and past its end too where that is the default
get_or-copies : {X : Type 0} (n i : ℕ) (x : X) → get_or (replicate n x) i x ≡ x
get_or-copies n i x = ⊎_elim
    (λ (within : i < n). get_or-replicate n i x x within)
    (λ (past : n ≤ i). get_or_past (replicate n x) i x (omega (arith, length-replicate n x)))
    (cases_lt i n)

module _ (shape : Shape) (cpus : List CpuState) (words : List ℕ) (layout : IsLayout shape) (count : shape.cpus ≡ 64)
    (online : cpus ≡ replicate 64 Online) (zeros : words ≡ replicate 512 0) where
  abbrev facts : EventFacts
  facts = record { layout = shape; cpus = cpus; base = record { words = words } }

  pub AreOnline-all : AreOnline facts
  AreOnline-all c below = (omega (arith, count, below), rw online (get_or-replicate 64 c Online Absent below))

  zero_word : (c k : ℕ) → word_at facts.base c k ≡ 0
  zero_word c k = rw zeros (get_or-copies {X = ℕ} 512 (cell event_count c k) 0)

  pub IsBase-zeros : IsBase facts
  IsBase-zeros = record {
    layout = layout;
    one_state_each = ap length online ∙ length-replicate 64 Online ∙ sym count;
    shaped = ap length zeros ∙ length-replicate {A = ℕ} 512 0 ∙ omega (arith, count);
    some_online = (0, layout.cpus_least, rw online (get_or-replicate 64 0 Online Absent (omega arith)));
    absent = λ c k c_in gone k_in. zero_word c k;
    sums = λ k k_in.
        let none = sum_below-zeros (λ c. pos (word_at facts.base c k)) shape.cpus (λ c c_in. ap pos (zero_word c k)) in
        subst (λ (z : ℤ). z ≤ℤ pos (2 ^ 60)) (sym none) (omega (arith, ints));
  }
