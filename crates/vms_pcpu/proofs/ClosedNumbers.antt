-- What is read from the words of a closed history are the numbers of its last state.
use Rattle.std.proofs.Common.{◌≡◌, ℕ, ◌+◌, ◌*◌, ◌<◌, ◌≤◌, ◌^◌, List, [], length, get_or, slice_index, ℤ, pos, sym, ap}
use Rattle.std.proofs.Common.{◌∙◌, subst, arith}
use Rattle.std.proofs.Math.Nat.{mul-le-mul_right}
use Rattle.vms_history.specs.Common.{signed_of_word, cell}
use Rattle.vms_history.proofs.Common.{base_can_begin}
use Rattle.vms_pcpu_core.specs.declared.steps.PcpuFacts.{PcpuFacts}
use Rattle.vms_pcpu_core.specs.Common.{IsBase, percpu, History, IsLegal, state_after, KeepsLaws, LockedState}
use Rattle.vms_pcpu_core.specs.Common.{counters_of, count_at, local_at}
use Rattle.vms_pcpu_core.proofs.Common.{laws-kept}
use Rattle.vms_rows.proofs.Common.{cells-same}
use Rattle.vms_rows.specs.Common.{row_width}
use Rattle.vms_pcpu.specs.SharedWords.{shown}
use Rattle.vms_pcpu.specs.Common.{locals_start, word_count}
use Rattle.vms_pcpu.proofs.ShownNumbers.{length-shown, shown-count, shown-local}
use Rattle.vms_pcpu.proofs.StepWords.{number-told}

module _ (facts : PcpuFacts) (h : History) (legal : IsLegal facts h) where
  abbrev s : LockedState
  s = state_after facts h

  laws : KeepsLaws facts h
  laws = laws-kept facts [] h legal

  base : IsBase facts
  base = base_can_begin percpu facts h legal

  abbrev n : ℕ
  n = counters_of facts.base

  module _ (counters cpus pair width : ℕ) (counters_are : n ≡ counters) (cpus_are : facts.layout.cpus ≡ cpus)
      (pair_is : pair ≡ row_width 2) (width_is : width ≡ row_width counters) where
    abbrev all : List ℕ
    all = shown facts s

    -- the words of each row are there
    pub counts-within : (j : ℕ) → j < counters → 0 + cell pair j 1 ≤ length all
    counts-within j j_in = subst (λ w. 0 + cell w j 1 ≤ length all) (sym pair_is)
        (omega (arith, j_in, counters_are, length-shown facts s laws.shape))

    pub locals-within : (c : ℕ) → c < cpus → counters * pair + cell width c counters ≤ length all
    locals-within c c_in =
        let above = mul-le-mul_right (row_width n) (subst (λ m. c < m) (sym cpus_are) c_in) in
        subst (λ p. counters * p + cell width c counters ≤ length all) (sym pair_is)
        (subst (λ w. counters * row_width 2 + cell w c counters ≤ length all) (sym width_is)
        (subst (λ m. locals_start m + cell (row_width m) c m ≤ length all) counters_are
        (omega (arith, above, length-shown facts s laws.shape))))

    -- all numbers of words, and of entries, fit
    module _ (small : word_count facts < 2 ^ 64) where
      pub words-fit : length all < 2 ^ 64
      words-fit = omega (arith, small, length-shown facts s laws.shape)

      pub start-fits : counters * pair < 2 ^ 64
      start-fits = subst (λ p. counters * p < 2 ^ 64) (sym pair_is)
          (subst (λ m. locals_start m < 2 ^ 64) counters_are (omega (arith, small)))

      pub counters-fit : counters < 2 ^ 63
      counters-fit = subst (λ m. m < 2 ^ 63) counters_are (omega (arith, small))

      pub entries-fit : cpus * counters < 2 ^ 64
      entries-fit = subst (λ m. m * counters < 2 ^ 64) cpus_are
          (subst (λ m. facts.layout.cpus * m < 2 ^ 64) counters_are (omega (arith, small)))

    pub counts-read : (count : List ℤ) → length count ≡ counters
        → ((j k : ℕ) → j < counters → k < 1 → (default : ℤ) → get_or count (cell 1 j k) default
        ≡ signed_of_word (slice_index all (0 + cell pair j k)))
        → count ≡ s.numbers.count
    counts-read count long each =
        cells-same 1 n (pos 0) s.numbers.count (omega (arith, laws.shape.count)) count
        (long ∙ sym counters_are ∙ sym laws.shape.count)
        (λ j k j_in k_in. each j k (omega (arith, j_in, counters_are)) k_in (pos 0)
        ∙ ap (λ p. signed_of_word (slice_index all (0 + cell p j k))) pair_is
        ∙ ap (λ i. signed_of_word (slice_index all i)) (omega (arith, k_in))
        ∙ ap signed_of_word (shown-count facts s laws.shape j j_in)
        ∙ number-told (count_at s.numbers j) (laws.numbers j j_in).count
        ∙ ap (λ i. get_or s.numbers.count i (pos 0)) (omega (arith, k_in)))

    counters-same : counters_of s.numbers ≡ n
    counters-same = ap length laws.shape.batch

    pub locals-read : (local : List ℤ) → length local ≡ cpus * counters
        → ((c j : ℕ) → c < cpus → j < counters → (default : ℤ) → get_or local (cell counters c j) default
        ≡ signed_of_word (slice_index all (counters * pair + cell width c j)))
        → local ≡ s.numbers.local
    locals-read local long each =
        cells-same n facts.layout.cpus (pos 0) s.numbers.local laws.shape.local local
        (long ∙ ap (λ m. m * counters) (sym cpus_are) ∙ ap (λ m. facts.layout.cpus * m) (sym counters_are)
        ∙ sym laws.shape.local)
        (λ c j c_in j_in.
        ap (λ m. get_or local (cell m c j) (pos 0)) counters_are
        ∙ each c j (omega (arith, c_in, cpus_are)) (omega (arith, j_in, counters_are)) (pos 0)
        ∙ ap (λ p. signed_of_word (slice_index all (counters * p + cell width c j))) pair_is
        ∙ ap (λ w. signed_of_word (slice_index all (locals_start counters + cell w c j))) width_is
        ∙ ap (λ m. signed_of_word (slice_index all (locals_start m + cell (row_width m) c j))) (sym counters_are)
        ∙ ap signed_of_word (shown-local facts s laws.shape c j c_in j_in)
        ∙ number-told (local_at s.numbers c j) ((laws.numbers j j_in).local c c_in)
        ∙ ap (λ w. get_or s.numbers.local (cell w c j) (pos 0)) counters-same)

  -- so these are all its numbers
  pub numbers-read : (count local : List ℤ) → count ≡ s.numbers.count → local ≡ s.numbers.local
      → record { batch = facts.base.batch; count = count; local = local } ≡ s.numbers
  numbers-read count local counts locals =
      ap (λ (bs : List ℕ). record { batch = bs; count = count; local = local }) (sym laws.shape.batch)
      ∙ ap (λ (xs : List ℤ). record { batch = s.numbers.batch; count = xs; local = local }) counts
      ∙ ap (λ (xs : List ℤ). record { batch = s.numbers.batch; count = s.numbers.count; local = xs }) locals
