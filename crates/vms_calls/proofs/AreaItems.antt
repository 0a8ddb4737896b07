-- The areas of a valid header are zone items of its layout, and areas ascend.
use Rattle.std.proofs.Common.{◌≡◌, ℕ, suc, ◌+◌, ◌<◌, ◌≤◌, ⊎_elim, Bool, false, not, ◌&&◌, List, [], ◌∷◌, ◌++◌, length}
use Rattle.std.proofs.Common.{filter, position, get_or, nat_le, Option, Some, None, refl, ap, subst, arith}
use Rattle.std.specs.Prelude.{All, AllPairs}
use Rattle.std.proofs.lemmas.Bool.{leb-true}
use Rattle.std.specs.Str.{bytes_eq}
use Rattle.std.proofs.lemmas.List.{length-map}
use Rattle.std.proofs.lemmas.List.Elements.{All-append, All-nil, All-cons, All-weaker, filter_passes}
use Rattle.std.proofs.lemmas.List.Kept.{AllPairs-cons, AllPairs-filter}
use Rattle.std.proofs.lemmas.List.Quantifiers.{position-Some}
use Rattle.vms_history.specs.Common.{Header, ItemDecl, Area, area_at, area_names, areas_named, areas_of, areas_from}
use Rattle.vms_history.specs.Common.{IsHeader, zone_items, Shape}
use Rattle.vms_calls.specs.Common.{AreasAscend}

-- the areas are zone items of the layout
abbrev pub AreItems : Shape → List Area → Type 0
AreItems shape areas = All (λ area. area.position < shape.positions) areas

module _ (shape : Shape) (items : List ItemDecl)
    (within : (index : ℕ) → index < length (filter (λ item. not item.node) items) → 8 + index < shape.positions) where
  one-item : (order : ℕ) (test : ItemDecl → Bool) → AreItems shape (area_at order
      (position test (filter (λ item. not item.node) items)))
  one-item order test = by (position test (filter (λ item. not item.node) items)) refl
    where
      by : (found : Option ℕ) → position test (filter (λ item. not item.node) items) ≡ found
          → AreItems shape (area_at order found)
      by None is = All-nil (λ area. area.position < shape.positions)
      by (Some index) is = All-cons (λ area. area.position < shape.positions)
          (record { order = order; position = length zone_items + index }) []
          (within index (position-Some test (filter (λ item. not item.node) items) index
          (record { name = []; node = false; bytes = false }) is).0)
          (All-nil (λ area. area.position < shape.positions))

  named-items : (order : ℕ) (names : List (List ℕ)) → AreItems shape (areas_named items order names)
  named-items order [] = All-nil (λ area. area.position < shape.positions)
  named-items order (name ∷ names) = All-append (λ area. area.position < shape.positions)
      (area_at order (position (λ item. bytes_eq item.name name && not item.bytes)
      (filter (λ item. not item.node) items)))
      (areas_named items (suc order) names)
      (one-item order (λ item. bytes_eq item.name name && not item.bytes)) (named-items (suc order) names)

pub areas-items : (header : Header) → IsHeader header → AreItems header.layout (areas_of header.items)
areas-items header valid = named-items header.layout header.items within 1 area_names
  where
    few : length (filter (λ item. not item.node) header.items) ≤ 8
    few = subst (λ n. n ≤ 8)
        (length-map (filter (λ item. not item.node) header.items) (λ (item : ItemDecl). item.name))
        valid.zone_items_most

    within : (index : ℕ) → index < length (filter (λ item. not item.node) header.items)
        → 8 + index < header.layout.positions
    within index less = ⊎_elim
        (λ (narrow : header.layout.positions ≡ 8).
        let none : length (filter (λ item. not item.node) header.items) ≡ 0 =
        ap (λ (items : List ItemDecl). length (filter (λ item. not item.node) items)) (valid.items_wide narrow) in
        absurd (omega arith))
        (λ (wide : header.layout.positions ≡ 16). let most = few in rw wide (omega arith))
        valid.is_layout.positions

-- the areas of these names ascend from the first order
module _ (items : List ItemDecl) where
  abbrev Before : Area → Area → Type 0
  Before a b = a.order < b.order

  abbrev FromOn : ℕ → Area → Type 0
  FromOn order a = order ≤ a.order

  next-ascends : (order : ℕ) (found : Option ℕ) (rest : List Area) → AllPairs Before rest
      → All (FromOn (suc order)) rest
      → AllPairs Before (area_at order found ++ rest) × All (FromOn order) (area_at order found ++ rest)
  next-ascends order None rest ascend from =
      (ascend, All-weaker (FromOn (suc order)) (FromOn order) (λ a later. omega arith) rest from)
  next-ascends order (Some index) rest ascend from =
      let area : Area = record { order = order; position = length zone_items + index } in (
        AllPairs-cons Before area rest
            (All-weaker (FromOn (suc order)) (Before area) (λ a later. omega arith) rest from) ascend,
        All-cons (FromOn order) area rest (omega arith)
            (All-weaker (FromOn (suc order)) (FromOn order) (λ a later. omega arith) rest from),
      )

  named-ascend : (order : ℕ) (names : List (List ℕ)) → AllPairs Before (areas_named items order names)
      × All (FromOn order) (areas_named items order names)
  named-ascend order [] = (λ i j d less within. absurd (omega arith), All-nil (FromOn order))
  named-ascend order (name ∷ names) =
      let more = named-ascend (suc order) names in
      next-ascends order (position (λ item. bytes_eq item.name name && not item.bytes)
      (filter (λ item. not item.node) items)) (areas_named items (suc order) names) more.0 more.1

  pub FromOn-holds : (order : ℕ) (areas : List Area) → All (FromOn order) (areas_from order areas)
  FromOn-holds order areas i d less =
      leb-true order (get_or (areas_from order areas) i d).order
      (filter_passes (λ area. nat_le order area.order) areas i d less)

pub AreasAscend-holds : AreasAscend
AreasAscend-holds order items = (
  AllPairs-filter (Before items) (λ area. nat_le order area.order) (areas_of items)
      (named-ascend items 1 area_names).0,
  FromOn-holds items order (areas_of items),
)
