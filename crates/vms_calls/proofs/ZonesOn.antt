-- For other crates too: the zones of a node, one more after another.
use Rattle.std.proofs.Common.{◌≡◌, ◌≢◌, ℕ, ◌+◌, nat_eq, if◌then◌else◌, Bool, true, false, List, [], ◌∷◌, ◌++◌, get_or}
use Rattle.std.proofs.Common.{sym, ap, ◌∙◌, add-one, eq-eqb}
use Rattle.std.specs.Prelude.{filter}
use Rattle.std.proofs.lemmas.Bool.{ne_eqb}
use Rattle.std.proofs.lemmas.List.{append-nil}
use Rattle.std.proofs.Math.ListN.{get_or-map}
use Rattle.std.proofs.lemmas.List.Elements.{filter-append}
use Rattle.vms_history.specs.Common.{Dma, ZoneName, Shape, node_of_zone}
use Rattle.vms_calls.specs.Common.{numbers_below}

-- whether zone g is on a node, by a list of its zones
module _ (shape : Shape) (zs : List ZoneName) (g node : ℕ) (same : zs ≡ shape.zones) where
  abbrev none_named : ZoneName
  none_named = record { node = 0; kind = Dma }

  same-node : node_of_zone shape g ≡ (get_or zs g none_named).node
  same-node = get_or-map (λ (zone : ZoneName). zone.node) shape.zones g none_named
      ∙ ap (λ (xs : List ZoneName). (get_or xs g none_named).node) (sym same)

  pub on-true : (get_or zs g none_named).node ≡ node → nat_eq (node_of_zone shape g) node ≡ true
  on-true is = eq-eqb (node_of_zone shape g) node (same-node ∙ is)

  pub on-false : (get_or zs g none_named).node ≢ node → nat_eq (node_of_zone shape g) node ≡ false
  on-false other = ne_eqb (node_of_zone shape g) node (λ is. other (sym same-node ∙ is))

-- one zone more, if it is on the node
module _ (shape : Shape) (node : ℕ) where
  abbrev pub is_on : ℕ → Bool
  is_on g = nat_eq (node_of_zone shape g) node

  abbrev pub zones_so_far : ℕ → List ℕ
  zones_so_far m = filter is_on (numbers_below m)

  zones-by : (n : ℕ) (b : Bool) → is_on n ≡ b
      → zones_so_far (n + 1) ≡ zones_so_far n ++ (if b then n ∷ [] else [])
  zones-by n b is = ap zones_so_far (add-one n) ∙ filter-append is_on (numbers_below n) (n ∷ [])
      ∙ ap (λ b. zones_so_far n ++ (if b then n ∷ [] else [])) is

  pub zones-more : (n : ℕ) → is_on n ≡ true → zones_so_far (n + 1) ≡ zones_so_far n ++ (n ∷ [])
  zones-more n is = zones-by n true is

  pub zones-same : (n : ℕ) → is_on n ≡ false → zones_so_far (n + 1) ≡ zones_so_far n
  zones-same n is = zones-by n false is ∙ append-nil (zones_so_far n)
