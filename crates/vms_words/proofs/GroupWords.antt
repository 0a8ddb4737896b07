-- The word of a group holds the list that stands there.
use Rattle.std.proofs.Common.{◌≡◌, ℕ, ◌+◌, ◌*◌, ◌<◌, List, length, get_or, ℤ, pos, sym, ◌∙◌, arith}
use Rattle.std.proofs.lemmas.List.{ext_get_or}
use Rattle.std.proofs.lemmas.List.FromFn.{get_or-map-range_with_len, length-map-range_with_len}
use Rattle.vms_calls.specs.Common.{State, TellsGroup, diff_at}
use Rattle.vms_words.specs.Common.{group_at}

module _ (s : State) (c j : ℕ) where
  pub length-group_at : length (group_at s c j) ≡ 8
  length-group_at = length-map-range_with_len (λ n. diff_at s c (8 * j + n)) 0 8

  pub get_or-group_at : (i : ℕ) → i < 8 → get_or (group_at s c j) i (pos 0) ≡ diff_at s c (8 * j + i)
  get_or-group_at i less = get_or-map-range_with_len (λ n. diff_at s c (8 * j + n)) 0 8 i i (pos 0) less (omega arith)

  pub group-is : (values : List ℤ) → TellsGroup s c j values → values ≡ group_at s c j
  group-is values told =
      ext_get_or (pos 0) values (group_at s c j) (told.eight ∙ sym length-group_at)
      (λ i within. let less : i < 8 = omega (arith, within, told.eight) in
      told.each i less ∙ sym (get_or-group_at i less))

  pub group-tells : TellsGroup s c j (group_at s c j)
  group-tells = record { eight = length-group_at; each = get_or-group_at }
