-- For other crates too: where the first element that passes a test stands.
use Rattle.std.proofs.Common.{ℕ, ◌≡◌, ◌<◌, ◌≤◌, ◌+◌, Bool, cond, not, List, [], ◌∷◌, Some, refl, ap, arith, bytes_eq}
use Rattle.std.proofs.Common.{length, map, position}
use Rattle.std.proofs.lemmas.Bool.Decides.{nat_tests}
use Rattle.std.proofs.lemmas.List.{length-map}
use Rattle.std.specs.List.{filter, position_or_len}
use Rattle.vms_base.specs.declared.headers.ItemDecl.{ItemDecl}
use Rattle.vms_base.specs.Common.{declared_names}
use Rattle.vms_text.specs.Common.{declared_items}

position_or_len-map : {X Y : Type 0} (p : Y → Bool) (f : X → Y) (xs : List X)
    → position_or_len p (map f xs) ≡ position_or_len (λ x. p (f x)) xs
position_or_len-map p f [] = refl
position_or_len-map p f (x ∷ xs) = ap (λ n. cond (not (p (f x))) (1 + n) 0) (position_or_len-map p f xs)

pub position-map : {X Y : Type 0} (p : Y → Bool) (f : X → Y) (xs : List X)
    → position p (map f xs) ≡ position (λ x. p (f x)) xs
position-map p f xs = rw (position_or_len-map p f xs, length-map xs f) refl

-- the first that passes is within
pub position-lt : {X : Type 0} (p : X → Bool) (xs : List X) (i : ℕ) → position p xs ≡ Some i → i < length xs
position-lt p xs i is = grind (arith, nat_tests)

-- a filter keeps no more than there was
pub length-filter-le : {X : Type 0} (p : X → Bool) (xs : List X) → length (filter p xs) ≤ length xs
length-filter-le p [] = omega arith
length-filter-le p (x ∷ xs) = let rest = length-filter-le p xs in grind (arith, nat_tests)

-- a declared item of a class stands within all of them
pub declared_position-lt : (node : Bool) (items : List ItemDecl) (word : List ℕ) (index : ℕ)
    → position (bytes_eq word) (declared_names node items) ≡ Some index → index < length items
declared_position-lt node items word index is =
    let kept = length-filter-le (λ item. cond node item.node (not item.node)) items in
    let named = length-map (declared_items node items) (λ item. item.name) in
    let within = position-lt (bytes_eq word) (declared_names node items) index is in
    omega (arith, kept, named, within)
