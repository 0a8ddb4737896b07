-- The groups of a place: that of its first counter, and that of its last one.
use Rattle.std.proofs.Common.{◌≡◌, ℕ, ◌+◌, ◌-◌, ◌*◌, ◌/◌, ◌<◌, ◌⊎◌, inl, inr, sym, ◌∙◌, subst, arith}
use Rattle.std.proofs.lemmas.Bool.{cases_lt}
use Rattle.vms_history.specs.Common.{IsGroup, IsLayout, IsPlace, Shape, counter_at, first_of_group, place_of}
use Rattle.vms_base.proofs.Common.{counter_at-place, group_of-lt, place_of-first_of_group}
use Rattle.vms_core.proofs.Common.{counter_at-known}
use Rattle.vms_page_passes.specs.Notes.{first_group, last_group}

module _ (shape : Shape) (layout : IsLayout shape) where
  positions-some : (0 < shape.positions) × (shape.positions - 1 < shape.positions)
  positions-some = elim layout.positions [ inl is ↦ (omega arith, omega arith) | inr is ↦ (omega arith, omega arith) ]

  pub first_group-place : (g : ℕ) → place_of shape (first_of_group (first_group shape g)) ≡ g
  first_group-place g =
      place_of-first_of_group shape layout (counter_at shape g 0) ∙ counter_at-place shape layout g 0 positions-some.0

  pub last_group-place : (g : ℕ) → place_of shape (first_of_group (last_group shape g)) ≡ g
  last_group-place g =
      place_of-first_of_group shape layout (counter_at shape g (shape.positions - 1))
      ∙ counter_at-place shape layout g (shape.positions - 1) positions-some.1

  module _ (g : ℕ) (g_in : IsPlace shape g) where
    pub first_group-known : IsGroup shape (first_group shape g)
    first_group-known =
        group_of-lt shape layout (counter_at shape g 0) (counter_at-known shape layout g 0 g_in positions-some.0)

    pub last_group-known : IsGroup shape (last_group shape g)
    last_group-known =
        group_of-lt shape layout (counter_at shape g (shape.positions - 1))
        (counter_at-known shape layout g (shape.positions - 1) g_in positions-some.1)

  -- a place has no others
  pub group-first_or_last : (j g : ℕ) → place_of shape (first_of_group j) ≡ g
      → (j ≡ first_group shape g) ⊎ (j ≡ last_group shape g)
  group-first_or_last j g =
      elim layout.positions [ inl is ↦ subst Ends (sym is) narrow | inr is ↦ subst Ends (sym is) wide ]
    where
      Ends : ℕ → Type 0
      Ends n = 8 * j / n ≡ g → (j ≡ (n * g + 0) / 8) ⊎ (j ≡ (n * g + (n - 1)) / 8)

      narrow : 8 * j / 8 ≡ g → (j ≡ (8 * g + 0) / 8) ⊎ (j ≡ (8 * g + (8 - 1)) / 8)
      narrow here = inl (omega arith)

      wide : 8 * j / 16 ≡ g → (j ≡ (16 * g + 0) / 8) ⊎ (j ≡ (16 * g + (16 - 1)) / 8)
      wide here = elim (cases_lt j (2 * g + 1)) [ inl less ↦ inl (omega arith) | inr more ↦ inr (omega arith) ]
