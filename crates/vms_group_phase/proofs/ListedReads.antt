-- For other crates too: what stands in lists that are given by CPU and then group, and which lists are such.
use Rattle.std.proofs.Common.{◌≡◌, ℕ, ◌*◌, ◌/◌, ◌%◌, ◌<◌, ◌≤◌, List, length, get_or, sym, ap, ◌∙◌, arith, ⊎_elim, subst}
use Rattle.std.proofs.Math.Nat.{mul-zero}
use Rattle.std.proofs.lemmas.Bool.{cases_lt}
use Rattle.std.proofs.lemmas.List.{ext_get_or}
use Rattle.std.proofs.lemmas.List.FromFn.{get_or-map-range_with_len, length-map-range_with_len}
use Rattle.std.proofs.lemmas.Nat.{div_below, mod_below, div-add-mod'}
use Rattle.vms_base.proofs.Common.{cell-lt, cell-cpu, cell-thing}
use Rattle.vms_history.specs.Common.{cell}
use Rattle.vms_group_phase.specs.Common.{listed_by_cpu}

module _ {X : Type 0} (f : ℕ → ℕ → X) (cpus groups : ℕ) where
  pub get_or-listed : (c g : ℕ) (d : X) → c < cpus → g < groups
      → get_or (listed_by_cpu f cpus groups) (cell groups c g) d ≡ f c g
  get_or-listed c g d c_in g_in =
      get_or-map-range_with_len (λ n. f (n / groups) (n % groups)) 0 (cpus * groups) (cell groups c g) (cell groups c g)
      d (cell-lt groups cpus c g c_in g_in) (omega arith)
      ∙ ap (λ a. f a (cell groups c g % groups)) (cell-cpu groups c g g_in)
      ∙ ap (λ b. f c b) (cell-thing groups c g g_in)

  pub length-listed : length (listed_by_cpu f cpus groups) ≡ cpus * groups
  length-listed = length-map-range_with_len (λ n. f (n / groups) (n % groups)) 0 (cpus * groups)

  -- a list with f c g in each cell
  pub is_listed : (xs : List X) (d : X) → length xs ≡ cpus * groups
      → ((c g : ℕ) → c < cpus → g < groups → get_or xs (cell groups c g) d ≡ f c g) → xs ≡ listed_by_cpu f cpus groups
  is_listed xs d long each = ext_get_or d xs (listed_by_cpu f cpus groups) (long ∙ sym length-listed) (λ n within.
      let inside : n < cpus * groups = omega (arith, long) in
      at n inside
      ∙ sym (get_or-map-range_with_len (λ k. f (k / groups) (k % groups)) 0 (cpus * groups) n n d inside
      (omega arith)))
    where
      by_groups : (n : ℕ) → n < cpus * groups → 0 < groups → get_or xs n d ≡ f (n / groups) (n % groups)
      by_groups n within some =
          subst (λ (i : ℕ). get_or xs i d ≡ f (n / groups) (n % groups)) (div-add-mod' n groups)
          (each (n / groups) (n % groups) (div_below n groups cpus some within) (mod_below n groups some))

      at : (n : ℕ) → n < cpus * groups → get_or xs n d ≡ f (n / groups) (n % groups)
      at n within = ⊎_elim (by_groups n within) (λ (none : groups ≤ 0).
          let no_groups : groups ≡ 0 = omega arith in
          let nothing : cpus * groups ≡ 0 = rw (no_groups, mul-zero) in absurd (omega arith)) (cases_lt 0 groups)
