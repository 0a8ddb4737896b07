-- For other crates too: the layout of zones that stand by rank.
use Rattle.std.proofs.Common.{ℕ, zero, suc, ◌≡◌, ◌≢◌, ◌+◌, ◌<◌, ◌≤◌, ◌⊎◌, Bool, true, false, not, cond, nat_eq, List}
use Rattle.std.proofs.Common.{[], ◌∷◌, length, map, get_or, refl, sym, subst, ap, ◌∙◌, inl, inr, arith}
use Rattle.std.proofs.lemmas.Bool.Decides.{nat_tests}
use Rattle.std.proofs.lemmas.List.{get_or-map, length-map}
use Rattle.std.proofs.lemmas.List.Elements.{Contains-get_or, filter_passes}
use Rattle.std.proofs.lemmas.List.Kept.{AllPairs-from_increasing, IsStrictlyIncreasing-filter}
use Rattle.std.proofs.lemmas.List.Sorted.{Contains-permutation, IsPermutation-map, IsPermutation-refl}
use Rattle.std.proofs.lemmas.List.Sorted.{IsPermutation-sym}
use Rattle.std.specs.List.{Contains, filter}
use Rattle.std.specs.List.Sorted.{IsStrictlyIncreasing}
use Rattle.vms_base.specs.declared.kinds.ZoneName.{ZoneName}
use Rattle.vms_base.specs.declared.places.LayoutError.{LayoutError}
use Rattle.vms_base.specs.declared.places.LayoutError.TheVariants.{NoZone, TooManyZones, DoubledZone, BadCpus}
use Rattle.vms_base.specs.Common.{IsRefused, LaysOut, Shape, rank_of}
use Rattle.vms_base.proofs.Common.{not-HasDoubled, rises, node-le, rank_of-injective}
use Rattle.vms_header.specs.Common.{IsDraft, Draft, Zone, most_cpus, names_of, nodes_of}

pub contains-tail : {X : Type 0} (x : X) (xs : List X) (n : X) → Contains xs n → Contains (x ∷ xs) n
contains-tail x xs n found = (suc found.0, omega (arith, found.1), found.2)

pub contains-split : {X : Type 0} (x : X) (xs : List X) (n : X) → Contains (x ∷ xs) n → (x ≡ n) ⊎ Contains xs n
contains-split x xs n (zero, below, is) = inl is
contains-split x xs n (suc k, below, is) = inr (k, omega arith, is)

pub rises-head : (x : ℕ) (xs : List ℕ) → IsStrictlyIncreasing (x ∷ xs) → (n : ℕ) → Contains xs n → x < n
rises-head x xs up n found =
    let less : x < get_or xs found.0 n = AllPairs-from_increasing (x ∷ xs) up 0 (suc found.0) n (omega arith)
    (omega (arith, found.1)) in
    omega (arith, less, found.2)

pub rises-tail : (x : ℕ) (xs : List ℕ) → IsStrictlyIncreasing (x ∷ xs) → IsStrictlyIncreasing xs
rises-tail x xs up k below =
    let same : suc k + 1 ≡ suc (k + 1) = omega arith in
    rw same at (up (suc k) (omega arith))

pub rises-cons : (x : ℕ) (xs : List ℕ) → ((n : ℕ) → Contains xs n → x < n) → IsStrictlyIncreasing xs
    → IsStrictlyIncreasing (x ∷ xs)
rises-cons x xs least up zero below = least (get_or xs 0 0) (Contains-get_or xs 0 0 (omega arith))
rises-cons x xs least up (suc k) below =
    let same : suc k + 1 ≡ suc (k + 1) = omega arith in
    rw same (up k (omega arith))

same_first : (x : ℕ) (xs : List ℕ) (y : ℕ) (ys : List ℕ) → IsStrictlyIncreasing (x ∷ xs) → IsStrictlyIncreasing (y ∷ ys)
    → (y ≡ x) ⊎ Contains ys x → (x ≡ y) ⊎ Contains xs y → x ≡ y
same_first x xs y ys first second (inl same) other = sym same
same_first x xs y ys first second (inr in_ys) (inl same) = same
same_first x xs y ys first second (inr in_ys) (inr in_xs) =
    absurd (omega (arith, rises-head x xs first y in_xs, rises-head y ys second x in_ys))

in_tail : (x n : ℕ) (y : ℕ) (ys : List ℕ) → x ≡ y → x < n → (y ≡ n) ⊎ Contains ys n → Contains ys n
in_tail x n y ys same less (inl is) = absurd (omega arith)
in_tail x n y ys same less (inr found) = found

-- numbers that rise stand in one order
pub same_members : (xs ys : List ℕ) → IsStrictlyIncreasing xs → IsStrictlyIncreasing ys
    → ((n : ℕ) → Contains xs n → Contains ys n) → ((n : ℕ) → Contains ys n → Contains xs n) → xs ≡ ys
same_members [] [] first second to from = refl
same_members [] (y ∷ ys) first second to from =
    let none = from y (0, omega arith, refl) in absurd (omega (arith, none.1))
same_members (x ∷ xs) [] first second to from = let none = to x (0, omega arith, refl) in absurd (omega (arith, none.1))
same_members (x ∷ xs) (y ∷ ys) first second to from =
    let head = same_first x xs y ys first second (contains-split y ys x (to x (0, omega arith, refl)))
    (contains-split x xs y (from y (0, omega arith, refl))) in
    let rest = same_members xs ys (rises-tail x xs first) (rises-tail y ys second)
    (λ n found. in_tail x n y ys head (rises-head x xs first n found)
    (contains-split y ys n (to n (contains-tail x xs n found))))
    (λ n found. in_tail y n x xs (sym head) (rises-head y ys second n found)
    (contains-split x xs n (from n (contains-tail y ys n found)))) in
    cc

filter-from : {X : Type 0} (p : X → Bool) (xs : List X) (n : X) → Contains (filter p xs) n → Contains xs n
filter-from p [] n found = found
filter-from p (x ∷ xs) n found =
    elim (p x) as (λ b. Contains (cond b (x ∷ filter p xs) (filter p xs)) n → Contains (x ∷ xs) n) [
      | true ↦ λ kept. elim (contains-split x (filter p xs) n kept) [
        | inl same ↦ (0, omega arith, same)
        | inr later ↦ contains-tail x xs n (filter-from p xs n later)
      ]
      | false ↦ λ kept. contains-tail x xs n (filter-from p xs n kept)
    ] found

filter-to : (p : ℕ → Bool) (xs : List ℕ) (n : ℕ) → Contains xs n → p n ≡ true → Contains (filter p xs) n
filter-to p [] n found holds = found
filter-to p (x ∷ xs) n found holds = elim (contains-split x xs n found) [
  | inl same ↦
      let here : p x ≡ true = ap p same ∙ holds in
      subst (λ b. Contains (cond b (x ∷ filter p xs) (filter p xs)) n) (sym here) (0, omega arith, same)
  | inr later ↦
      let rest = filter-to p xs n later holds in
      elim (p x) as (λ b. Contains (cond b (x ∷ filter p xs) (filter p xs)) n) [
        | true ↦ contains-tail x
            (filter p xs) n rest
        | false ↦ rest
      ]
]

abbrev other_than : ℕ → ℕ → Bool
other_than first node = not (nat_eq node first)

pub nodes_of-from : (zones : List ZoneName) (n : ℕ) → Contains (nodes_of zones) n
    → Contains (map (λ zone. zone.node) zones) n
nodes_of-from [] n found = found
nodes_of-from (zone ∷ zones) n found =
    elim (contains-split zone.node (filter (other_than zone.node) (nodes_of zones)) n found) [
      | inl same ↦ (0, omega arith, same)
      | inr later ↦ contains-tail zone.node (map (λ zone. zone.node) zones) n
          (nodes_of-from zones n (filter-from (other_than zone.node) (nodes_of zones) n later))
    ]

differs : (n first : ℕ) → n ≢ first → other_than first n ≡ true
differs n first other = grind (arith, nat_tests)

equals : (n first : ℕ) → nat_eq n first ≡ true → first ≡ n
equals n first same = grind (arith, nat_tests)

unequal : (n first : ℕ) → nat_eq n first ≡ false → n ≢ first
unequal n first other = grind (arith, nat_tests)

pub nodes_of-to : (zones : List ZoneName) (n : ℕ) → Contains (map (λ zone. zone.node) zones) n
    → Contains (nodes_of zones) n
nodes_of-to [] n found = found
nodes_of-to (zone ∷ zones) n found = elim (contains-split zone.node (map (λ zone. zone.node) zones) n found) [
  | inl same ↦ (0, omega arith, same)
  | inr later ↦
      let rest = nodes_of-to zones n later in
      elim (nat_eq n zone.node) as (λ b. nat_eq n zone.node ≡ b → Contains (nodes_of (zone ∷ zones)) n) [
        | true ↦ λ same. (0, omega arith, equals n zone.node same)
        | false ↦ λ other. contains-tail zone.node (filter (other_than zone.node) (nodes_of zones)) n
            (filter-to (other_than zone.node) (nodes_of zones) n rest (differs n zone.node (unequal n zone.node other)))
      ] refl
]

nodes_above : (zone : ZoneName) (zones : List ZoneName) → IsStrictlyIncreasing (map rank_of (zone ∷ zones)) → (n : ℕ)
    → Contains (map (λ zone. zone.node) zones) n → zone.node ≤ n
nodes_above zone zones up n found =
    let within : found.0 < length zones = omega (arith, found.1, length-map zones (λ zone. zone.node)) in
    let other : ZoneName = get_or zones found.0 zone in
    let node : get_or (map (λ zone. zone.node) zones) found.0 n ≡ other.node =
    get_or-map (λ zone. zone.node) zones found.0 zone n within in
    let higher : rank_of zone < rank_of other = rises rank_of (zone ∷ zones) up 0 (suc found.0) zone (omega arith)
    (omega arith) in
    omega (arith, node, found.2, node-le zone other higher)

past_first : (n first : ℕ) → other_than first n ≡ true → first ≤ n → first < n
past_first n first other least = grind (arith, nat_tests)

pub nodes_of-rises : (zones : List ZoneName) → IsStrictlyIncreasing (map rank_of zones)
    → IsStrictlyIncreasing (nodes_of zones)
nodes_of-rises [] up = λ k below. absurd (omega arith)
nodes_of-rises (zone ∷ zones) up =
    let rest = nodes_of-rises zones (rises-tail (rank_of zone) (map rank_of zones) up) in
    let others = filter (other_than zone.node) (nodes_of zones) in
    rises-cons zone.node others
    (λ n found.
    let holds : other_than zone.node (get_or others found.0 n) ≡ true =
    filter_passes (other_than zone.node) (nodes_of zones) found.0 n found.1 in
    past_first n zone.node (ap (other_than zone.node) (sym found.2) ∙ holds)
    (nodes_above zone zones up n (nodes_of-from zones n (filter-from (other_than zone.node) (nodes_of zones) n found))))
    (IsStrictlyIncreasing-filter (other_than zone.node) (nodes_of zones) rest)

pub same_ranks : (xs ys : List ZoneName) → map rank_of xs ≡ map rank_of ys → xs ≡ ys
same_ranks [] [] same = refl
same_ranks [] (y ∷ ys) same = absurd cc
same_ranks (x ∷ xs) [] same = absurd cc
same_ranks (x ∷ xs) (y ∷ ys) same =
    let head = rank_of-injective x y cc in
    let rest = same_ranks xs ys cc in
    cc

abbrev shape_with : List ZoneName → List ℕ → ℕ → ℕ → Shape
shape_with zones nodes cpus positions = record { zones = zones; nodes = nodes; cpus = cpus; positions = positions }

same_shape : (zones : List ZoneName) (nodes : List ℕ) (cpus positions : ℕ) (shape : Shape) → shape.zones ≡ zones
    → shape.nodes ≡ nodes → shape.cpus ≡ cpus → shape.positions ≡ positions
    → shape ≡ shape_with zones nodes cpus positions
same_shape zones nodes cpus positions shape zones_are nodes_are cpus_are positions_are =
    ap (λ zones. shape_with zones shape.nodes shape.cpus shape.positions) zones_are
    ∙ ap (λ nodes. shape_with zones nodes shape.cpus shape.positions) nodes_are
    ∙ ap (λ cpus. shape_with zones nodes cpus shape.positions) cpus_are
    ∙ ap (λ positions. shape_with zones nodes cpus positions) positions_are

-- zones that stand by rank are laid out as they stand
pub LaysOut-ranked : (zones : List ZoneName) (cpus positions : ℕ) (shape : Shape)
    → IsStrictlyIncreasing (map rank_of zones) → LaysOut zones cpus positions shape
    → shape ≡ record { zones = zones; nodes = nodes_of zones; cpus = cpus; positions = positions }
LaysOut-ranked zones cpus positions shape up lays =
    let moved = IsPermutation-map rank_of zones shape.zones lays.same_zones in
    let back = IsPermutation-sym (map rank_of zones) (map rank_of shape.zones) moved in
    let zones_are : shape.zones ≡ zones =
    same_ranks shape.zones zones
    (same_members (map rank_of shape.zones) (map rank_of zones) lays.is_layout.zones_ascend up
    (λ n found. Contains-permutation (map rank_of shape.zones) (map rank_of zones) n back found)
    (λ n found. Contains-permutation (map rank_of zones) (map rank_of shape.zones) n moved found)) in
    let nodes = map (λ zone. zone.node) shape.zones in
    let nodes_are : shape.nodes ≡ nodes_of shape.zones =
    same_members shape.nodes (nodes_of shape.zones) lays.is_layout.nodes_ascend
    (nodes_of-rises shape.zones lays.is_layout.zones_ascend)
    (λ n found. nodes_of-to shape.zones n ((lays.is_layout.nodes_named n).0 found))
    (λ n found. (lays.is_layout.nodes_named n).1 (nodes_of-from shape.zones n found)) in
    same_shape zones (nodes_of zones) cpus positions shape zones_are (nodes_are
    ∙ ap nodes_of zones_are) lays.same_cpus lays.same_positions

pub ranks-names : (zones : List Zone) → map rank_of (names_of zones) ≡ map (λ zone. rank_of zone.name) zones
ranks-names [] = refl
ranks-names (zone ∷ zones) = ap (λ ranks. rank_of zone.name ∷ ranks) (ranks-names zones)

-- the zones of a draft stand by rank
pub names-rise : (draft : Draft) → IsDraft draft → IsStrictlyIncreasing (map rank_of (names_of draft.zones))
names-rise draft is = subst IsStrictlyIncreasing (sym (ranks-names draft.zones)) is.zones_ascend

too_many : (cpus most : ℕ) → 1 ≤ cpus → cpus ≤ most → (cpus ≡ 0) ⊎ (most < cpus) → ⊥
too_many cpus most least within (inl none) = omega arith
too_many cpus most least within (inr past) = omega arith

-- the layout of a draft is not refused
pub not-refused : (draft : Draft) (error : LayoutError) → IsDraft draft → 0 < length draft.zones
    → IsRefused (most_cpus draft.wide) (names_of draft.zones) draft.cpus error → ⊥
not-refused draft NoZone is some refused = omega (arith, ap length refused, length-map draft.zones (λ zone. zone.name))
not-refused draft TooManyZones is some refused =
    omega (arith, refused, is.zones_most, length-map draft.zones (λ zone. zone.name))
not-refused draft DoubledZone is some refused =
    not-HasDoubled (names_of draft.zones) (names_of draft.zones) (IsPermutation-refl (names_of draft.zones))
    (names-rise draft is) refused.1
not-refused draft BadCpus is some refused =
    too_many draft.cpus (most_cpus draft.wide) is.cpus_least is.cpus_most refused.3
