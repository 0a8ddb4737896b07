-- For other crates too: the areas of a header, from an order on.
use Rattle.std.proofs.Common.{◌≡◌, ℕ, suc, ◌+◌, ◌-◌, ◌<◌, ◌≤◌, ⊎_elim, inl, inr, nat_le, ◌&&◌, not, Bool, true, false}
use Rattle.std.proofs.Common.{List, [], ◌∷◌, ◌++◌, length, drop, filter, position, Option, Some, None, refl, sym, ap}
use Rattle.std.proofs.Common.{subst, ◌∙◌, arith}
use Rattle.std.proofs.lemmas.List.{drop_all, length-map}
use Rattle.std.specs.Str.{bytes_eq}
use Rattle.std.proofs.lemmas.Bool.{cases_lt}
use Rattle.std.proofs.lemmas.Bool.Decides.{nat_tests}
use Rattle.std.proofs.lemmas.List.Elements.{filter-append}
use Rattle.std.proofs.lemmas.List.Quantifiers.{position-Some}
use Rattle.vms_base.specs.declared.headers.Header.{Header}
use Rattle.vms_base.specs.declared.headers.ItemDecl.{ItemDecl}
use Rattle.vms_base.specs.Common.{Area, area_at, areas_from, areas_named, IsHeader}

-- the place of a name among the zones' items that don't count bytes
abbrev pub index_of : List ItemDecl → List ℕ → Option ℕ
index_of items name =
    position (λ item. bytes_eq item.name name && not item.bytes) (filter (λ item. not item.node) items)

module _ (items : List ItemDecl) (order : ℕ) where
  abbrev is_from : Area → Bool
  is_from area = nat_le order area.order

  area-below : (k : ℕ) (found : Option ℕ) → k < order → filter is_from (area_at k found) ≡ []
  area-below k None below = refl
  area-below k (Some index) below = let off : nat_le order k ≡ false = grind (arith, nat_tests) in rw off refl

  area-from : (k : ℕ) (found : Option ℕ) → order ≤ k → filter is_from (area_at k found) ≡ area_at k found
  area-from k None from = refl
  area-from k (Some index) from = let on : nat_le order k ≡ true = grind (arith, nat_tests) in rw on refl

  all-from : (k : ℕ) (names : List (List ℕ)) → order ≤ k
      → filter is_from (areas_named items k names) ≡ areas_named items k names
  all-from k [] from = refl
  all-from k (name ∷ names) from =
      filter-append is_from (area_at k (index_of items name)) (areas_named items (suc k) names)
      ∙ ap (λ areas. areas ++ filter is_from (areas_named items (suc k) names)) (area-from k (index_of items name) from)
      ∙ ap (λ areas. area_at k (index_of items name) ++ areas) (all-from (suc k) names (omega arith))

  -- the areas for blocks of an order or larger are those of the later names
  pub areas_from-later : (k : ℕ) (names : List (List ℕ)) → k ≤ order
      → areas_from order (areas_named items k names) ≡ areas_named items order (drop (order - k) names)
  areas_from-later k [] within = sym (ap (areas_named items order) (drop_all (order - k) [] (omega arith)))
  areas_from-later k (name ∷ names) within = elim (cases_lt k order) [
    | inl below ↦
        let more : order - k ≡ suc (order - suc k) = omega arith in
        filter-append is_from (area_at k (index_of items name)) (areas_named items (suc k) names)
        ∙ ap (λ areas. areas ++ filter is_from (areas_named items (suc k) names))
        (area-below k (index_of items name) below)
        ∙ areas_from-later (suc k) names (omega arith)
        ∙ ap (λ n. areas_named items order (drop n (name ∷ names))) (sym more)
    | inr from ↦
        let same : k ≡ order = omega arith in
        let none : order - k ≡ 0 = omega arith in
        subst (λ n. areas_from order (areas_named items k (name ∷ names))
        ≡ areas_named items order (drop n (name ∷ names))) (sym none)
        (subst (λ n. areas_from order (areas_named items k (name ∷ names)) ≡ areas_named items n (name ∷ names)) same
        (all-from k (name ∷ names) from))
  ]

-- a declared item has a position of the layout
pub position-within : (header : Header) → IsHeader header → (name : List ℕ) (index : ℕ)
    → index_of header.items name ≡ Some index → 8 + index < header.layout.positions
position-within header valid name index is = ⊎_elim
    (λ (narrow : header.layout.positions ≡ 8).
    let none : length (filter (λ item. not item.node) header.items) ≡ 0 =
    ap (λ (items : List ItemDecl). length (filter (λ item. not item.node) items)) (valid.items_wide narrow) in
    let within = less in
    absurd (omega arith))
    (λ (wide : header.layout.positions ≡ 16). let most = few in let within = less in rw wide (omega arith))
    valid.is_layout.positions
  where
    few : length (filter (λ item. not item.node) header.items) ≤ 8
    few = subst (λ n. n ≤ 8)
        (length-map (filter (λ item. not item.node) header.items) (λ (item : ItemDecl). item.name))
        valid.zone_items_most

    less : index < length (filter (λ item. not item.node) header.items)
    less = (position-Some (λ item. bytes_eq item.name name && not item.bytes)
        (filter (λ item. not item.node) header.items) index (record { name = []; node = false; bytes = false }) is).0
