-- Where the one value that passes a test stands in a list.
use Rattle.std.proofs.Common.{◌≡◌, ℕ, ◌<◌, Bool, true, false, not, nat_lt, List, length, get_or, Some, inl, inr, arith}
use Rattle.std.proofs.Common.{◌↔◌, ◌∙◌, ap, refl}
use Rattle.std.specs.Prelude.{slice_get, position, Contains, IsSome}
use Rattle.std.specs.List.{position_or_len}
use Rattle.std.proofs.lemmas.List.Sums.{prefix_len_passes, prefix_len_stops}
use Rattle.std.proofs.lemmas.Option.{slice_get-get_or}
use Rattle.std.proofs.lemmas.Bool.{cases_lt, false≢true}
use Rattle.std.proofs.lemmas.Bool.Decides.{nat_tests}

module _ {X : Type 0} (p : X → Bool) (x : X) (own : p x ≡ true) (alone : (y : X) → p y ≡ true → y ≡ x) where
  found_at : (xs : List X) → position_or_len p xs < length xs → (d : X) → get_or xs (position_or_len p xs) d ≡ x
  found_at xs within d =
      alone _ (let stops = prefix_len_stops (λ y. not (p y)) xs d within in grind arith)

  -- the place of x is where x stands
  pub position-at : (xs : List X) (i : ℕ) → position p xs ≡ Some i → slice_get xs i ≡ Some x
  position-at xs i found =
      elim (cases_lt (position_or_len p xs) (length xs)) [
        | inl within ↦
            let test : nat_lt (position_or_len p xs) (length xs) ≡ true = grind (arith, nat_tests) in
            let same : position_or_len p xs ≡ i = (let e = rw test at found in cc) in
            rw (← same) (slice_get-get_or xs _ x within ∙ ap Some (found_at xs within x))
        | inr past ↦
            let test : nat_lt (position_or_len p xs) (length xs) ≡ false = grind (arith, nat_tests) in
            let e = rw test at found in cc
      ]

  -- x has a place exactly where x stands somewhere
  pub position-known : (xs : List X) → IsSome (position p xs) ↔ Contains xs x
  position-known xs =
      elim (cases_lt (position_or_len p xs) (length xs)) [
        | inl within ↦
            let test : nat_lt (position_or_len p xs) (length xs) ≡ true = grind (arith, nat_tests) in
            rw test ((λ _. (position_or_len p xs, within, found_at xs within x)), λ _. refl)
        | inr past ↦
            let test : nat_lt (position_or_len p xs) (length xs) ≡ false = grind (arith, nat_tests) in
            rw test (
              (λ wrong. absurd (false≢true wrong)),
              λ (k, within, at).
                  let passed = prefix_len_passes (λ y. not (p y)) xs k x (omega arith) in
                  let other : not (p x) ≡ true = rw at at passed in
                  grind arith,
            )
      ]
