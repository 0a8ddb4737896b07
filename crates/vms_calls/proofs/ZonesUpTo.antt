-- For other crates too: the zones of a node up to a zone index, and the first of them that passes.
use Rattle.std.proofs.Common.{◌≡◌, ℕ, zero, suc, ◌+◌, ◌-◌, ◌<◌, nat_eq, nat_le, ◌&&◌, Bool, true, false, List, [], ◌∷◌}
use Rattle.std.proofs.Common.{◌++◌, length, map, filter, get_or, if◌then◌else◌, Some, None, refl, sym, ap, subst, ◌∙◌}
use Rattle.std.proofs.Common.{arith}
use Rattle.std.specs.List.{find}
use Rattle.std.specs.Option.{option_or}
use Rattle.std.specs.Prelude.{All}
use Rattle.std.proofs.lemmas.List.Elements.{All-append, All-cons, All-filter, All-nil, All-weaker, filter-append}
use Rattle.std.proofs.lemmas.List.Folds.{find-append}
use Rattle.std.proofs.lemmas.List.{get_or-map}
use Rattle.vms_history.specs.Common.{ZoneName, Shape, node_of_zone, zone_index}
use Rattle.vms_calls.specs.Common.{numbers_below}

module _ (shape : Shape) (most node : ℕ) where
  abbrev index_at : ℕ → ℕ
  index_at g = get_or (map (λ zone. zone_index zone.kind) shape.zones) g 0

  -- of the first n zones, those of the node up to the index
  abbrev pub zones_below : ℕ → List ℕ
  zones_below n =
      filter (λ g. nat_le (index_at g) most) (filter (λ g. nat_eq (node_of_zone shape g) node) (numbers_below n))

  -- whether zone g is one of them
  abbrev pub is_one : ℕ → Bool
  is_one g = nat_eq (node_of_zone shape g) node && nat_le (index_at g) most

  pub zones_below-next : (n : ℕ) → zones_below (suc n) ≡ zones_below n ++ (if is_one n then n ∷ [] else [])
  zones_below-next n =
      ap (filter (λ g. nat_le (index_at g) most))
      (filter-append (λ g. nat_eq (node_of_zone shape g) node) (numbers_below n) (n ∷ []))
      ∙ filter-append (λ g. nat_le (index_at g) most)
      (filter (λ g. nat_eq (node_of_zone shape g) node) (numbers_below n))
      (filter (λ g. nat_eq (node_of_zone shape g) node) (n ∷ []))
      ∙ ap (λ gs. zones_below n ++ gs) (by (nat_eq (node_of_zone shape n) node) (nat_le (index_at n) most) refl refl)
    where
      by : (a b : Bool) → nat_eq (node_of_zone shape n) node ≡ a → nat_le (index_at n) most ≡ b
          → filter (λ g. nat_le (index_at g) most) (if a then n ∷ [] else []) ≡ (if a && b then n ∷ [] else [])
      by true b one up = ap (λ (x : Bool). if x then n ∷ [] else []) up
      by false b one up = refl

  below-known : (n : ℕ) → All (λ g. g < n) (numbers_below n)
  below-known zero = All-nil (λ g. g < 0)
  below-known (suc n) = All-append (λ g. g < suc n) (numbers_below n) (n ∷ [])
      (All-weaker (λ g. g < n) (λ g. g < suc n) (λ g less. omega arith) (numbers_below n) (below-known n))
      (All-cons (λ g. g < suc n) n [] (omega arith) (All-nil (λ g. g < suc n)))

  pub zones_below-known : (n : ℕ) → All (λ g. g < n) (zones_below n)
  zones_below-known n = All-filter (λ g. nat_le (index_at g) most) (λ g. g < n)
      (filter (λ g. nat_eq (node_of_zone shape g) node) (numbers_below n))
      (All-filter (λ g. nat_eq (node_of_zone shape g) node) (λ g. g < n) (numbers_below n) (below-known n))

  module _ (test : ℕ → Bool) where
    find-next : (n : ℕ) → find test (zones_below (suc n))
        ≡ option_or (find test (zones_below n)) (find test (if is_one n then n ∷ [] else []))
    find-next n = ap (find test) (zones_below-next n)
        ∙ find-append test (zones_below n) (if is_one n then n ∷ [] else [])

    -- none passes so far, and the next isn't one of them or doesn't pass
    pub find-other : (n : ℕ) → find test (zones_below n) ≡ None → is_one n ≡ false
        → find test (zones_below (n + 1)) ≡ None
    find-other n none other =
        let next : suc n ≡ n + 1 = omega arith in
        subst (λ m. find test (zones_below m) ≡ None) next
        (find-next n ∙ ap (λ x. option_or x (find test (if is_one n then n ∷ [] else []))) none
        ∙ ap (λ (b : Bool). find test (if b then n ∷ [] else [])) other)

    pub find-fails : (n : ℕ) → find test (zones_below n) ≡ None → is_one n ≡ true → test n ≡ false
        → find test (zones_below (n + 1)) ≡ None
    find-fails n none one fails =
        let next : suc n ≡ n + 1 = omega arith in
        subst (λ m. find test (zones_below m) ≡ None) next
        (find-next n ∙ ap (λ x. option_or x (find test (if is_one n then n ∷ [] else []))) none
        ∙ ap (λ (b : Bool). find test (if b then n ∷ [] else [])) one
        ∙ ap (λ (b : Bool). if b then Some n else None) fails)

    -- or it passes, whichever follow
    find-passes : (n : ℕ) → find test (zones_below n) ≡ None → is_one n ≡ true → test n ≡ true
        → find test (zones_below (suc n)) ≡ Some n
    find-passes n none one passes =
        find-next n ∙ ap (λ x. option_or x (find test (if is_one n then n ∷ [] else []))) none
        ∙ ap (λ (b : Bool). find test (if b then n ∷ [] else [])) one
        ∙ ap (λ (b : Bool). if b then Some n else None) passes

    find-stays : (n m g : ℕ) → find test (zones_below n) ≡ Some g → find test (zones_below (n + m)) ≡ Some g
    find-stays n zero g found =
        let same : n + 0 ≡ n = omega arith in subst (λ l. find test (zones_below l) ≡ Some g) (sym same) found
    find-stays n (suc m) g found =
        let next : suc (n + m) ≡ n + suc m = omega arith in
        subst (λ l. find test (zones_below l) ≡ Some g) next
        (find-next (n + m) ∙ ap (λ x. option_or x (find test (if is_one (n + m) then (n + m) ∷ [] else [])))
        (find-stays n m g found))

    pub find-first : (n all : ℕ) → n < all → find test (zones_below n) ≡ None → is_one n ≡ true → test n ≡ true
        → find test (zones_below all) ≡ Some n
    find-first n all within none one passes =
        let rest : suc n + (all - suc n) ≡ all = omega arith in
        subst (λ l. find test (zones_below l) ≡ Some n) rest
        (find-stays (suc n) (all - suc n) n (find-passes n none one passes))

-- what the zone's name tells of that
pub is_one-told : (shape : Shape) (most node g : ℕ) (zones : List ZoneName) (none : ZoneName) → zones ≡ shape.zones
    → g < length shape.zones
    → (nat_eq (get_or zones g none).node node && nat_le (zone_index (get_or zones g none).kind) most)
    ≡ is_one shape most node g
is_one-told shape most node g zones none same within =
    ap (λ (zs : List ZoneName). nat_eq (get_or zs g none).node node && nat_le (zone_index (get_or zs g none).kind) most)
    same
    ∙ sym (ap (λ n. nat_eq n node && nat_le (zone_index (get_or shape.zones g none).kind) most)
    (get_or-map (λ zone. zone.node) shape.zones g none 0 within))
    ∙ sym (ap (λ n. nat_eq (node_of_zone shape g) node && nat_le n most)
    (get_or-map (λ zone. zone_index zone.kind) shape.zones g none 0 within))
