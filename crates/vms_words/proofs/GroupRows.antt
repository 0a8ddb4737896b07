-- The differentials of groups, unpacked one group after another.
use Rattle.std.proofs.Common.{◌≡◌, ℕ, ◌+◌, ◌*◌, ◌/◌, ◌%◌, ◌<◌, List, get_or, slice_index, ℤ, pos, sym, ap, ◌∙◌, arith}
use Rattle.std.proofs.Common.{inl, inr}
use Rattle.std.proofs.lemmas.Bool.{cases_lt}
use Rattle.vms_base.specs.Groups.{bytes_of_word}
use Rattle.vms_base.proofs.Common.{cell-cpu, cell-thing}
use Rattle.vms_calls.specs.Common.{cell}

module _ (words : List ℕ) (start width groups : ℕ) where
  -- the differentials of a group, in the order of CPUs and then groups
  abbrev pub list_in : ℕ → List ℤ
  list_in n = bytes_of_word (slice_index words (start + cell width (n / groups) (n % groups)))

  -- those of the first groups stand in a row
  abbrev pub AreUnpacked : ℕ → List ℤ → Type 0
  AreUnpacked count row = (n i : ℕ) → n < count → i < 8 → get_or row (8 * n + i) (pos 0) ≡ get_or (list_in n) i (pos 0)

  -- and those of one group more
  pub unpacked-more : (cpu group : ℕ) (new old list : List ℤ) → group < groups
      → list ≡ bytes_of_word (slice_index words (start + cpu * width + group))
      → ((i : ℕ) → i < 8 → get_or new (8 * (cpu * groups + group) + i) (pos 0) ≡ get_or list i (pos 0))
      → ((i : ℕ) → i < 8 * (cpu * groups + group) → get_or new i (pos 0) ≡ get_or old i (pos 0))
      → AreUnpacked (cpu * groups + group) old → AreUnpacked (cpu * groups + (group + 1)) new
  unpacked-more cpu group new old list group_in is put before above n i n_in i_in =
      elim (cases_lt n (cpu * groups + group)) [
        | inl earlier ↦ before (8 * n + i) (omega (arith, earlier, i_in)) ∙ above n i earlier i_in
        | inr late ↦
            let here : n ≡ cell groups cpu group = omega (arith, n_in, late) in
            ap (λ m. get_or new (8 * m + i) (pos 0)) here ∙ put i i_in
            ∙ ap (λ (xs : List ℤ). get_or xs i (pos 0)) is
            ∙ ap (λ m. get_or (bytes_of_word (slice_index words m)) i (pos 0)) (omega arith)
            ∙ ap (λ c. get_or (bytes_of_word (slice_index words (start + cell width c group))) i (pos 0))
            (sym (cell-cpu groups cpu group group_in))
            ∙ ap (λ j. get_or (bytes_of_word (slice_index words
            (start + cell width (cell groups cpu group / groups) j))) i (pos 0))
            (sym (cell-thing groups cpu group group_in))
            ∙ ap (λ m. get_or (list_in m) i (pos 0)) (sym here)
      ]
