-- The first free block of the areas of a header, from an order on.
use Rattle.std.proofs.Common.{◌≡◌, ℕ, suc, ◌+◌, ◌-◌, ◌<◌, ◌≤◌, Bool, true, false, List, [], ◌++◌, length, drop}
use Rattle.std.proofs.Common.{if◌then◌else◌, Option, Some, None, refl, ap, ◌∙◌, arith}
use Rattle.std.specs.List.{find}
use Rattle.std.specs.Option.{option_or}
use Rattle.std.specs.Prelude.{is_some, option_map}
use Rattle.std.proofs.lemmas.List.Folds.{find-append}
use Rattle.std.proofs.Math.Seq.{drop-cons}
use Rattle.vms_calls.specs.Common.{ItemDecl, Area, area_at, area_names, areas_named, zone_items, Shape, State}
use Rattle.vms_calls.specs.Common.{area_index}
use Rattle.vms_plain_pages.specs.Common.{block_found, has_block}

-- the first block of areas in a row is that of the first of them that has one
module _ (shape : Shape) (s : State) (g : ℕ) where
  pub block_found-append : (xs ys : List Area)
      → block_found shape s g (xs ++ ys) ≡ option_or (block_found shape s g xs) (block_found shape s g ys)
  block_found-append xs ys =
      ap (option_map (λ area. area.order)) (find-append (has_block shape s g) xs ys)
      ∙ by (find (has_block shape s g) xs) (find (has_block shape s g) ys)
    where
      by : (x y : Option Area) → option_map (λ area. area.order) (option_or x y)
          ≡ option_or (option_map (λ area. area.order) x) (option_map (λ area. area.order) y)
      by None y = refl
      by (Some x) y = refl

  -- an area with a block tells its order
  pub block_found-some : (order : ℕ) (found : Option ℕ) → is_some (block_found shape s g (area_at order found)) ≡ true
      → block_found shape s g (area_at order found) ≡ Some order
  block_found-some order None is = absurd cc
  block_found-some order (Some index) is =
      by (has_block shape s g (record { order = order; position = length zone_items + index })) is
    where
      by : (b : Bool)
          → is_some (option_map (λ (area : Area). area.order)
          (if b then Some (record { order = order; position = length zone_items + index }) else None)) ≡ true
          → option_map (λ (area : Area). area.order)
          (if b then Some (record { order = order; position = length zone_items + index }) else None) ≡ Some order
      by true is = refl
      by false is = absurd cc

  pub block_found-none : (order : ℕ) (found : Option ℕ) → is_some (block_found shape s g (area_at order found)) ≡ false
      → block_found shape s g (area_at order found) ≡ None
  block_found-none order found is = by (block_found shape s g (area_at order found)) is
    where
      by : (x : Option ℕ) → is_some x ≡ false → x ≡ None
      by None is = refl
      by (Some x) is = absurd cc

-- the areas of the names from an order on are that of the order and the later ones
pub block_found-next : (items : List ItemDecl) (shape : Shape) (s : State) (g number : ℕ) → 1 ≤ number → number ≤ 10
    → block_found shape s g (areas_named items number (drop (number - 1) area_names))
    ≡ option_or (block_found shape s g (area_at number (area_index items number)))
    (block_found shape s g (areas_named items (number + 1) (drop number area_names)))
block_found-next items shape s g number least most =
    let before : suc (number - 1) ≡ number = omega arith in
    let next : suc number ≡ number + 1 = omega arith in
    let within : number - 1 < length area_names = omega arith in
    ap (λ names. block_found shape s g (areas_named items number names)) (drop-cons area_names (number - 1) [] within)
    ∙ block_found-append shape s g (area_at number (area_index items number))
    (areas_named items (suc number) (drop (suc (number - 1)) area_names))
    ∙ ap (λ n. option_or (block_found shape s g (area_at number (area_index items number)))
    (block_found shape s g (areas_named items (suc number) (drop n area_names)))) before
    ∙ ap (λ n. option_or (block_found shape s g (area_at number (area_index items number)))
    (block_found shape s g (areas_named items n (drop number area_names)))) next
