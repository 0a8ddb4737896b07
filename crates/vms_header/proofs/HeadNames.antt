-- The names of items, fixed and declared.
use Rattle.std.proofs.Common.{ℕ, ◌≡◌, ◌∙◌, Bool, ◌||◌, List, [], ◌∷◌, ◌++◌, map, refl, sym, ap, bytes_eq, Bor}
use Rattle.std.proofs.lemmas.List.Folds.{list_any-append}
use Rattle.std.specs.List.{list_any}
use Rattle.vms_base.specs.declared.headers.ItemDecl.{ItemDecl}
use Rattle.vms_base.specs.Common.{node_items, zone_items}
use Rattle.vms_header.specs.Common.{is_item_name}

-- a test of what a list is made of
pub list_any-map : {X Y : Type 0} (p : Y → Bool) (f : X → Y) (xs : List X)
    → list_any p (map f xs) ≡ list_any (λ x. p (f x)) xs
list_any-map p f [] = refl
list_any-map p f (x ∷ xs) = ap (λ rest. p (f x) || rest) (list_any-map p f xs)

-- a name among texts
pub list_any-texts : (name : List ℕ) (texts : List (Bor (List ℕ))) (names : List (List ℕ)) (found : Bool)
    → map (λ other. other.now) texts ≡ names → found ≡ list_any (λ other. bytes_eq name other.now) texts
    → list_any (bytes_eq name) names ≡ found
list_any-texts name texts names found are is =
    ap (list_any (bytes_eq name)) (sym are) ∙ list_any-map (bytes_eq name) (λ other. other.now) texts ∙ sym is

pub is_item_name-parts : (items : List ItemDecl) (name : List ℕ)
    → is_item_name items name ≡ (list_any (bytes_eq name) (zone_items ++ node_items) || list_any
    (λ item. bytes_eq name item.name) items)
is_item_name-parts items name =
    list_any-append (bytes_eq name) (zone_items ++ node_items) (map (λ item. item.name) items)
    ∙ ap (λ b. list_any (bytes_eq name) (zone_items ++ node_items) || b)
    (list_any-map (bytes_eq name) (λ item. item.name) items)
