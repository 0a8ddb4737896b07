-- Which words show which numbers of a state, and that one number alone changes one word.
use Rattle.std.proofs.Common.{◌≡◌, ◌≢◌, ℕ, zero, suc, ◌*◌, ◌<◌, Bool, false, List, ◌++◌, length, get_or, set}
use Rattle.std.proofs.Common.{slice_index, slice_set, ℤ, pos, refl, sym, ap, ◌∙◌, arith, length-append}
use Rattle.std.proofs.Math.ListN.{get_or-append}
use Rattle.std.proofs.lemmas.List.{set-append_left, set-append_right, get_or-append_right, get_or-set_other}
use Rattle.std.proofs.lemmas.List.{get_or-set_same}
use Rattle.vms_history.specs.Common.{word_of, IsCpu, cell}
use Rattle.vms_pcpu_core.specs.declared.steps.PcpuFacts.{PcpuFacts}
use Rattle.vms_pcpu_core.specs.Common.{LockedState, HasShape, counters_of, count_at, local_at, held_at, IsPcpu}
use Rattle.vms_pcpu_core.specs.Common.{with_count, with_local, with_held}
use Rattle.vms_rows.proofs.Common.{length-rows_of, rows_of-cell, rows_of-changed, rows_of-set}
use Rattle.vms_rows.specs.Rows.{rows_of}
use Rattle.vms_rows.specs.Common.{row_place, row_width}
use Rattle.vms_pcpu.specs.SharedWords.{shown}
use Rattle.vms_pcpu.specs.Common.{count_place, lock_word, lock_place, local_place, locals_start, pair_word, word_count}

-- the words of a counter's row by a state
abbrev pub pair_in : LockedState → ℕ → ℕ → ℕ
pair_in s j k = pair_word (count_at s.numbers j) (held_at s j) k

module _ (facts : PcpuFacts) (s : LockedState) (shaped : HasShape facts s) where
  abbrev n : ℕ
  n = counters_of facts.base

  abbrev pairs : List ℕ
  pairs = rows_of 2 n (λ j k. pair_in s j k)

  abbrev locals : List ℕ
  locals = rows_of n facts.layout.cpus (λ c j. word_of (local_at s.numbers c j))

  length-pairs : length pairs ≡ locals_start n
  length-pairs = length-rows_of 2 (λ j k. pair_in s j k) n

  length-locals : length locals ≡ facts.layout.cpus * row_width n
  length-locals = length-rows_of n (λ c j. word_of (local_at s.numbers c j)) facts.layout.cpus

  counters-same : counters_of s.numbers ≡ n
  counters-same = ap length shaped.batch

  pub length-shown : length (shown facts s) ≡ word_count facts
  unfolding shown
  length-shown = let all = length-append pairs locals in omega (arith, all, length-pairs, length-locals)

  pub shown-pair : (j k : ℕ) → IsPcpu facts j → k < 2
      → slice_index (shown facts s) (row_place 2 j k) ≡ pair_in s j k
  unfolding shown
  shown-pair j k j_in k_in =
      get_or-append pairs locals 0 (row_place 2 j k) (omega (arith, j_in, k_in, length-pairs))
      ∙ rows_of-cell 2 (λ i m. pair_in s i m) n j k j_in k_in

  pub shown-count : (j : ℕ) → IsPcpu facts j
      → slice_index (shown facts s) (count_place j) ≡ word_of (count_at s.numbers j)
  shown-count j j_in = shown-pair j 0 j_in (omega arith)

  pub shown-lock : (j : ℕ) → IsPcpu facts j → slice_index (shown facts s) (lock_place j) ≡ lock_word (held_at s j)
  shown-lock j j_in = shown-pair j 1 j_in (omega arith)

  pub shown-local : (c j : ℕ) → IsCpu facts.layout c → IsPcpu facts j
      → slice_index (shown facts s) (local_place n c j) ≡ word_of (local_at s.numbers c j)
  unfolding shown
  shown-local c j c_in j_in =
      get_or-append_right pairs locals (locals_start n) (local_place n c j) 0 length-pairs (omega arith)
      ∙ ap (λ i. get_or locals i 0) (omega arith)
      ∙ rows_of-cell n (λ d m. word_of (local_at s.numbers d m)) facts.layout.cpus c j c_in j_in

  -- rows of counters in which one word alone differs
  pair-changed : (later : LockedState) (j k : ℕ) → IsPcpu facts j → k < 2
      → ((i m : ℕ) → m < 2 → row_place 2 i m ≢ row_place 2 j k → pair_in later i m ≡ pair_in s i m)
      → rows_of 2 n (λ i m. pair_in later i m) ++ locals
      ≡ slice_set (pairs ++ locals) (row_place 2 j k) (pair_in later j k)
  pair-changed later j k j_in k_in others =
      ap (λ xs. xs ++ locals)
      (rows_of-changed 2 n (λ i m. pair_in later i m) (λ i m. pair_in s i m) j k j_in k_in
      (λ i m i_in m_in differ. others i m m_in differ))
      ∙ sym (set-append_left pairs locals (row_place 2 j k) (pair_in later j k)
      (omega (arith, j_in, k_in, length-pairs)))

  pub shown-with_count : (j : ℕ) → IsPcpu facts j → (v : ℤ)
      → shown facts (with_count s j v) ≡ slice_set (shown facts s) (count_place j) (word_of v)
  unfolding shown
  shown-with_count j j_in v =
      pair-changed (with_count s j v) j 0 j_in (omega arith) others
      ∙ ap (λ (z : ℤ). slice_set (pairs ++ locals) (count_place j) (word_of z))
      (get_or-set_same s.numbers.count j v (pos 0) (omega (arith, j_in, shaped.count)))
    where
      others : (i m : ℕ) → m < 2 → row_place 2 i m ≢ count_place j → pair_in (with_count s j v) i m ≡ pair_in s i m
      others i zero m_in differ = ap word_of
          (get_or-set_other s.numbers.count j i v (pos 0) (λ same. differ (ap (λ k. row_place 2 k 0) same)))
      others i (suc m) m_in differ = refl

  pub shown-with_held : (j : ℕ) → IsPcpu facts j → (b : Bool)
      → shown facts (with_held s j b) ≡ slice_set (shown facts s) (lock_place j) (lock_word b)
  unfolding shown
  shown-with_held j j_in b =
      pair-changed (with_held s j b) j 1 j_in (omega arith) others
      ∙ ap (λ (held : Bool). slice_set (pairs ++ locals) (lock_place j) (lock_word held))
      (get_or-set_same s.held j b false (omega (arith, j_in, shaped.held)))
    where
      others : (i m : ℕ) → m < 2 → row_place 2 i m ≢ lock_place j → pair_in (with_held s j b) i m ≡ pair_in s i m
      others i zero m_in differ = refl
      others i (suc zero) m_in differ = ap lock_word
          (get_or-set_other s.held j i b false (λ same. differ (ap (λ k. row_place 2 k 1) same)))
      others i (suc (suc m)) m_in differ = absurd (omega (arith, m_in))

  pub shown-with_local : (c j : ℕ) → IsCpu facts.layout c → IsPcpu facts j → (v : ℤ)
      → shown facts (with_local s c j v) ≡ slice_set (shown facts s) (local_place n c j) (word_of v)
  unfolding shown
  shown-with_local c j c_in j_in v =
      ap (λ xs. pairs ++ xs)
      (ap (λ w. shown_by w (set s.numbers.local (cell w c j) v)) counters-same
      ∙ rows_of-set n facts.layout.cpus word_of (pos 0) s.numbers.local c j v shaped.local c_in j_in
      ∙ ap (λ w. slice_set (shown_by w s.numbers.local) (row_place n c j) (word_of v)) (sym counters-same)
      ∙ ap (λ i. slice_set locals i (word_of v)) (omega arith))
      ∙ sym (set-append_right pairs locals (locals_start n) (local_place n c j) (word_of v) length-pairs (omega arith))
    where
      shown_by : ℕ → List ℤ → List ℕ
      shown_by w local = rows_of n facts.layout.cpus (λ d m. word_of (get_or local (cell w d m) (pos 0)))
