-- The words that show the numbers of a base under free locks.
use Rattle.std.proofs.Common.{◌≡◌, ℕ, zero, suc, ◌+◌, ◌*◌, ◌<◌, ◌≤◌, false, List, [], ◌∷◌, ◌++◌, length, map, get_or}
use Rattle.std.proofs.Common.{◌-◌, replicate, take, drop, ℤ, pos, refl, sym, ap, ◌∙◌, arith, append_assoc, append-nil}
use Rattle.std.proofs.lemmas.List.{length-map, get_or-map}
use Rattle.vms_history.specs.Common.{word_of}
use Rattle.vms_pcpu_core.specs.declared.steps.PcpuFacts.{PcpuFacts}
use Rattle.vms_pcpu_core.specs.Common.{IsBase, counters_of, count_at, local_at}
use Rattle.vms_pcpu_core.specs.States.{unlocked}
use Rattle.vms_pcpu_core.proofs.Common.{HasShape-state_after}
use Rattle.vms_rows.proofs.Common.{length-part, part-at, rows_of-more, rows_of-none}
use Rattle.vms_rows.specs.Rows.{rows_of}
use Rattle.vms_rows.specs.Common.{gap}
use Rattle.vms_pcpu.specs.SharedWords.{shown}
use Rattle.vms_pcpu.specs.Common.{pair_word, word_count}
use Rattle.vms_pcpu.proofs.ShownNumbers.{length-shown}

-- the lock of each counter is free
held-free : (n j : ℕ) → get_or (replicate n false) j false ≡ false
held-free zero zero = refl
held-free zero (suc j) = refl
held-free (suc n) zero = refl
held-free (suc n) (suc j) = held-free n j

-- the words of a counter's row under a free lock
abbrev pub free_pair : List ℤ → ℕ → ℕ → ℕ
free_pair counts j k = pair_word (get_or counts j (pos 0)) false k

-- a row of one counter more
pub pairs-more : (counts : List ℤ) (j word : ℕ) (words next : List ℕ)
    → words ≡ rows_of 2 j (λ i k. free_pair counts i k) → word ≡ word_of (get_or counts j (pos 0))
    → next ≡ words ++ ((word ∷ 0 ∷ []) ++ replicate gap 0)
    → next ≡ rows_of 2 (j + 1) (λ i k. free_pair counts i k)
pairs-more counts j word words next above is next_is =
    next_is ∙ ap (λ xs. xs ++ ((word ∷ 0 ∷ []) ++ replicate gap 0)) above
    ∙ rows_of-more 2 (λ i k. free_pair counts i k) j (word ∷ 0 ∷ []) refl each
    ∙ ap (λ i. rows_of 2 i (λ i k. free_pair counts i k)) (omega arith)
  where
    each : (k : ℕ) → k < 2 → get_or (word ∷ 0 ∷ []) k 0 ≡ free_pair counts j k
    each zero k_in = is
    each (suc zero) k_in = refl
    each (suc (suc k)) k_in = absurd (omega (arith, k_in))

-- the words of a CPU's row
abbrev pub local_word : PcpuFacts → ℕ → ℕ → ℕ
local_word facts c j = word_of (local_at facts.base c j)

-- the numbers of a CPU, as they are cut out of those of all
abbrev part : ℕ → ℕ → List ℤ → List ℤ
part cpu counters local = take (cpu * counters + counters - cpu * counters) (drop (cpu * counters) local)

module _ (facts : PcpuFacts) (base : IsBase facts) where
  abbrev n : ℕ
  n = counters_of facts.base

  -- before the first CPU
  pub locals-none : (words : List ℕ) (counts : List ℤ) → counts ≡ facts.base.count
      → words ≡ rows_of 2 (length counts) (λ j k. free_pair counts j k)
      → words ≡ rows_of 2 n (λ j k. free_pair facts.base.count j k) ++ rows_of n 0 (λ c j. local_word facts c j)
  locals-none words counts counts_are is =
      is ∙ ap (λ (list : List ℤ). rows_of 2 (length list) (λ j k. free_pair list j k)) counts_are
      ∙ ap (λ m. rows_of 2 m (λ j k. free_pair facts.base.count j k)) base.lengths.one_count_each
      ∙ sym (append-nil (rows_of 2 n (λ j k. free_pair facts.base.count j k)))
      ∙ ap (λ xs. rows_of 2 n (λ j k. free_pair facts.base.count j k) ++ xs)
      (sym (rows_of-none n (λ c j. local_word facts c j)))

  -- a row of one CPU more
  pub locals-more : (first words next : List ℕ) (cpu counters : ℕ) (local : List ℤ) → counters ≡ n
      → local ≡ facts.base.local → cpu < facts.layout.cpus
      → words ≡ first ++ rows_of n cpu (λ c j. local_word facts c j)
      → next ≡ words ++ (map word_of (part cpu counters local) ++ replicate gap 0)
      → next ≡ first ++ rows_of n (cpu + 1) (λ c j. local_word facts c j)
  locals-more first words next cpu counters local counters_is local_is cpu_in above next_is =
      let row = part cpu n facts.base.local in
      let long = length-part n facts.layout.cpus (pos 0) facts.base.local base.lengths.one_local_each cpu cpu_in in
      let each = part-at n facts.layout.cpus (pos 0) facts.base.local base.lengths.one_local_each cpu in
      next_is ∙ ap (λ m. words ++ (map word_of (part cpu m local) ++ replicate gap 0)) counters_is
      ∙ ap (λ (list : List ℤ). words ++ (map word_of (part cpu n list) ++ replicate gap 0)) local_is
      ∙ ap (λ xs. xs ++ (map word_of row ++ replicate gap 0)) above
      ∙ append_assoc first (rows_of n cpu (λ c j. local_word facts c j)) (map word_of row ++ replicate gap 0)
      ∙ ap (λ xs. first ++ xs)
      (rows_of-more n (λ c j. local_word facts c j) cpu (map word_of row) (length-map row word_of ∙ long)
      (λ j j_in. get_or-map word_of row j (pos 0) 0 (omega (arith, j_in, long)) ∙ ap word_of (each j j_in))
      ∙ ap (λ c. rows_of n c (λ c j. local_word facts c j)) (omega arith))

  -- those of all CPUs
  pub opening-shown : (first words : List ℕ) (cpu : ℕ) → cpu ≤ facts.layout.cpus → facts.layout.cpus ≤ cpu
      → first ≡ rows_of 2 n (λ j k. free_pair facts.base.count j k)
      → words ≡ first ++ rows_of n cpu (λ c j. local_word facts c j) → words ≡ shown facts (unlocked facts)
  unfolding shown
  opening-shown first words cpu low high first_is is =
      is ∙ ap (λ c. first ++ rows_of n c (λ c j. local_word facts c j)) (omega (arith, low, high))
      ∙ ap (λ xs. xs ++ rows_of n facts.layout.cpus (λ c j. local_word facts c j)) first_is
      ∙ (λ i. rows_of 2 n (λ j k. pair_word (count_at facts.base j) (sym (held-free n j) i) k)
      ++ rows_of n facts.layout.cpus (λ c j. local_word facts c j))

  pub opening-length : length (shown facts (unlocked facts)) ≡ word_count facts
  opening-length = length-shown facts (unlocked facts) (HasShape-state_after facts [] base)
