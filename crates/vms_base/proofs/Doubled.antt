-- For other crates too: when one zone stands at two places of a list.
use Rattle.std.proofs.Common.{◌≡◌, ◌≢◌, ℕ, ◌<◌, List, length, get_or, take, map, arith, sym, ◌∙◌, ap}
use Rattle.std.specs.Prelude.{IsPermutation, Contains, AllPairs, ◌==◌, Some, Decides, Bool}
use Rattle.std.specs.List.Sorted.{IsStrictlyIncreasing}
use Rattle.std.proofs.lemmas.Bool.Decides.{nat_tests}
use Rattle.vms_base.specs.declared.kinds.ZoneKind.TheVariants.{Dma}
use Rattle.std.proofs.lemmas.Bool.{eqb-true, eq-eqb}
use Rattle.std.proofs.lemmas.List.{get_or-take, length-take}
use Rattle.std.proofs.lemmas.List.Sorted.{IsPermutation-sym, Contains-permutation}
use Rattle.std.proofs.lemmas.Map.Keys.{IsDistinct-IsPermutation}
use Rattle.std.proofs.lemmas.Map.Made.{AllPairs-from_IsDistinct, IsDistinct-from_AllPairs}
use Rattle.std.proofs.lemmas.Option.{slice_get-get_or}
use Rattle.vms_base.specs.declared.kinds.ZoneName.{ZoneName}
use Rattle.vms_base.specs.Common.{rank_of, HasDoubled}
use Rattle.vms_base.proofs.Zones.{rank_of-injective}
use Rattle.vms_base.proofs.Ranks.{rises}

-- a zone that stands before its place, in whatever order, stands twice
pub HasDoubled-from_front : (zones sorted : List ZoneName) (i : ℕ) (d : ZoneName) → i < length zones
    → IsPermutation (take i zones) sorted → Contains sorted (get_or zones i d) → HasDoubled zones
HasDoubled-from_front zones sorted i d within moved stands =
    let front = Contains-permutation sorted (take i zones) (get_or zones i d)
    (IsPermutation-sym (take i zones) sorted moved) stands in
    let before : front.0 < i = omega (arith, front.1, length-take i zones) in
    let at : get_or zones front.0 (get_or zones i d) ≡ get_or zones i d = rw get_or-take at front.2 in
    record {
      first = front.0;
      second = i;
      first_before = before;
      second_within = within;
      same = slice_get-get_or zones front.0 (get_or zones i d) (omega arith) ∙ ap Some at
          ∙ sym (slice_get-get_or zones i d within);
    }

abbrev is_same : ZoneName → ZoneName → Bool
is_same a b = rank_of a == rank_of b

is_same-decides : (a b : ZoneName) → Decides (is_same a b) (a ≡ b)
is_same-decides a b = (λ test. rank_of-injective a b (eqb-true _ _ test), λ same. eq-eqb _ _ (ap rank_of same))

is_same-flips : (a b : ZoneName) → is_same a b ≡ is_same b a
is_same-flips a b = eqb-flips (rank_of a) (rank_of b)
  where
    eqb-flips : (m n : ℕ) → (m == n) ≡ (n == m)
    eqb-flips m n = grind (arith, nat_tests)

ascending-differ : (sorted : List ZoneName) → IsStrictlyIncreasing (map rank_of sorted) → AllPairs ◌≢◌ sorted
ascending-differ sorted up i j d before within same =
    let lower = rises rank_of sorted up i j d before within in
    omega (arith, lower, ap rank_of same)

-- zones that have an order by rank differ from each other
pub zones-differ : (zones sorted : List ZoneName) → IsPermutation zones sorted
    → IsStrictlyIncreasing (map rank_of sorted) → AllPairs ◌≢◌ zones
zones-differ zones sorted moved up =
    AllPairs-from_IsDistinct {eq = is_same} is_same-decides zones
    (IsDistinct-IsPermutation is_same is_same-flips sorted zones (IsPermutation-sym zones sorted moved)
    (IsDistinct-from_AllPairs {eq = is_same} is_same-decides sorted (ascending-differ sorted up)))

pub not-HasDoubled : (zones sorted : List ZoneName) → IsPermutation zones sorted
    → IsStrictlyIncreasing (map rank_of sorted) → HasDoubled zones → ⊥
not-HasDoubled zones sorted moved up doubled =
    let any : ZoneName = record { node = 0; kind = Dma } in
    let first = slice_get-get_or zones doubled.first any (omega arith) in
    let second = slice_get-get_or zones doubled.second any doubled.second_within in
    let same : get_or zones doubled.first any ≡ get_or zones doubled.second any = cc (first, second, doubled.same) in
    zones-differ zones sorted moved up doubled.first doubled.second any doubled.first_before doubled.second_within same
