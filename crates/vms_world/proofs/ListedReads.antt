-- For other crates too: what stands in lists that are given place by place, and which lists are such.
use Rattle.std.proofs.Common.{◌≡◌, ℕ, ◌*◌, ◌/◌, ◌%◌, ◌<◌, ◌≤◌, List, length, get_or, sym, ap, ◌∙◌, arith, ⊎_elim, subst}
use Rattle.std.proofs.Math.Nat.{mul-zero}
use Rattle.std.proofs.lemmas.Bool.{cases_lt}
use Rattle.std.proofs.lemmas.List.{ext_get_or}
use Rattle.std.proofs.lemmas.List.FromFn.{get_or-map-range_with_len, length-map-range_with_len}
use Rattle.std.proofs.lemmas.Nat.{div_below, mod_below, div-add-mod'}
use Rattle.vms_calls.specs.Common.{cell}
use Rattle.vms_base.proofs.Common.{cell-lt, cell-cpu, cell-thing}
use Rattle.vms_world.specs.Common.{listed, listed_by_cpu}

module _ {X : Type 0} (f : ℕ → X) (n : ℕ) where
  pub length-listed : length (listed f n) ≡ n
  length-listed = length-map-range_with_len f 0 n

  pub get_or-listed : (i : ℕ) (d : X) → i < n → get_or (listed f n) i d ≡ f i
  get_or-listed i d within = get_or-map-range_with_len f 0 n i i d within (omega arith)

  -- a list with f i at each place i
  pub is_listed : (xs : List X) (d : X) → length xs ≡ n → ((i : ℕ) → i < n → get_or xs i d ≡ f i) → xs ≡ listed f n
  is_listed xs d long each = ext_get_or d xs (listed f n) (long ∙ sym length-listed) (λ i within.
      let inside : i < n = omega (arith, long) in each i inside ∙ sym (get_or-listed i d inside))

module _ {X : Type 0} (f : ℕ → ℕ → X) (cpus width : ℕ) where
  pub length-listed_by_cpu : length (listed_by_cpu f cpus width) ≡ cpus * width
  length-listed_by_cpu = length-listed (λ n. f (n / width) (n % width)) (cpus * width)

  pub get_or-listed_by_cpu : (c k : ℕ) (d : X) → c < cpus → k < width
      → get_or (listed_by_cpu f cpus width) (cell width c k) d ≡ f c k
  get_or-listed_by_cpu c k d c_in k_in =
      get_or-listed (λ n. f (n / width) (n % width)) (cpus * width) (cell width c k) d
      (cell-lt width cpus c k c_in k_in)
      ∙ ap (λ a. f a (cell width c k % width)) (cell-cpu width c k k_in)
      ∙ ap (λ b. f c b) (cell-thing width c k k_in)

  -- a list with f c k in each cell
  pub is_listed_by_cpu : (xs : List X) (d : X) → length xs ≡ cpus * width
      → ((c k : ℕ) → c < cpus → k < width → get_or xs (cell width c k) d ≡ f c k) → xs ≡ listed_by_cpu f cpus width
  is_listed_by_cpu xs d long each = is_listed (λ n. f (n / width) (n % width)) (cpus * width) xs d long at
    where
      by_width : (n : ℕ) → n < cpus * width → 0 < width → get_or xs n d ≡ f (n / width) (n % width)
      by_width n within some =
          subst (λ (i : ℕ). get_or xs i d ≡ f (n / width) (n % width)) (div-add-mod' n width)
          (each (n / width) (n % width) (div_below n width cpus some within) (mod_below n width some))

      at : (n : ℕ) → n < cpus * width → get_or xs n d ≡ f (n / width) (n % width)
      at n within = ⊎_elim (by_width n within) (λ (none : width ≤ 0).
          let no_width : width ≡ 0 = omega arith in
          let nothing : cpus * width ≡ 0 = rw (no_width, mul-zero) in absurd (omega arith)) (cases_lt 0 width)
