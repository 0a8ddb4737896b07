-- For other crates too: sums of a measure over events, and sums over the numbers below a bound.
use Rattle.std.proofs.Common.{◌≡◌, ◌≢◌, ℕ, zero, suc, ◌<◌, ◌==◌, ◌&&◌, Bool, true, false, List, [], ◌∷◌, ◌++◌, ℤ, pos}
use Rattle.std.proofs.Common.{◌+ℤ◌, ◌-ℤ◌, refl, sym, ap, arith, eq-eqb, ne_eqb, eqb-true, if◌then◌else◌, nat_eq}
use Rattle.std.proofs.Math.Bool.{and-false}
use Rattle.std.proofs.lemmas.Int.{ints}
use Rattle.std.proofs.lemmas.Bool.Decides.{nat_tests}
use Rattle.vms_history.specs.declared.events.Event.{Event}
use Rattle.vms_history.specs.Common.{total, sum_below}

pub total-append : {K : Type 0} (measure : K → ℤ) (m h : List (Event K))
    → total measure (m ++ h) ≡ total measure m +ℤ total measure h
total-append measure [] h = omega (arith, ints)
total-append measure (e ∷ m) h = omega (arith, ints, total-append measure m h)

pub total-sum : {K : Type 0} (first second : K → ℤ) (h : List (Event K))
    → total (λ k. first k +ℤ second k) h ≡ total first h +ℤ total second h
total-sum first second [] = refl
total-sum first second (e ∷ h) = omega (arith, ints, total-sum first second h)

pub sum_below-same : (f g : ℕ → ℤ) (n : ℕ) → ((k : ℕ) → k < n → f k ≡ g k) → sum_below f n ≡ sum_below g n
sum_below-same f g zero same = refl
sum_below-same f g (suc n) same =
    omega (arith, ints, same n (omega arith), sum_below-same f g n (λ k below. same k (omega arith)))

pub sum_below-sum : (f g : ℕ → ℤ) (n : ℕ) → sum_below (λ k. f k +ℤ g k) n ≡ sum_below f n +ℤ sum_below g n
sum_below-sum f g zero = refl
sum_below-sum f g (suc n) = omega (arith, ints, sum_below-sum f g n)

pub sum_below-zeros : (f : ℕ → ℤ) (n : ℕ) → ((k : ℕ) → k < n → f k ≡ pos 0) → sum_below f n ≡ pos 0
sum_below-zeros f zero zeros = refl
sum_below-zeros f (suc n) zeros =
    omega (arith, ints, zeros n (omega arith), sum_below-zeros f n (λ k below. zeros k (omega arith)))

-- g differs from f at k alone
pub sum_below-changed : (f g : ℕ → ℤ) (k n : ℕ) → k < n → ((i : ℕ) → i < n → i ≢ k → g i ≡ f i)
    → sum_below g n ≡ sum_below f n +ℤ (g k -ℤ f k)
sum_below-changed f g k zero below same = absurd (omega arith)
sum_below-changed f g k (suc n) below same =
    by (k == n) refl (λ less. sum_below-changed f g k n less (λ i i_below. same i (omega arith)))
  where
    by : (b : Bool) → (k == n) ≡ b → (k < n → sum_below g n ≡ sum_below f n +ℤ (g k -ℤ f k))
        → sum_below g (suc n) ≡ sum_below f (suc n) +ℤ (g k -ℤ f k)
    by true last rest =
        let is : k ≡ n = eqb-true k n last in
        let others : sum_below g n ≡ sum_below f n =
        sum_below-same g f n (λ i i_below. same i (omega arith) (omega arith)) in
        omega (arith, ints, others, ap f is, ap g is)
    by false not_last rest =
        let less : k < n = grind (arith, nat_tests) in
        omega (arith, ints, rest less, same n (omega arith) (omega arith))

-- what each of n values counts
module _ {X : Type 0} (worth : X → ℤ) where
  -- value d changes, where b holds
  pub sum_below-one : (f g : ℕ → X) (d n : ℕ) (b : Bool) → d < n
      → sum_below (λ i. worth (if nat_eq d i && b then g i else f i)) n
      ≡ sum_below (λ i. worth (f i)) n +ℤ (if b then worth (g d) -ℤ worth (f d) else pos 0)
  sum_below-one f g d n true d_in =
      let same : nat_eq d d ≡ true = eq-eqb d d refl in
      let changed =
      sum_below-changed (λ i. worth (f i)) (λ i. worth (if nat_eq d i && true then g i else f i)) d n d_in
      (λ i i_in other. let differ : nat_eq d i ≡ false = ne_eqb d i (λ e. other (sym e)) in rw differ refl) in
      let here : worth (if nat_eq d d && true then g d else f d) ≡ worth (g d) = rw same refl in
      omega (arith, ints, changed, here)
  sum_below-one f g d n false d_in =
      let all = sum_below-same (λ i. worth (if nat_eq d i && false then g i else f i)) (λ i. worth (f i)) n
      (λ i i_in. rw (and-false (nat_eq d i)) refl) in
      omega (arith, ints, all)

  -- value d alone counts, where b holds
  pub sum_below-only : (none v : X) (d n : ℕ) (b : Bool) → worth none ≡ pos 0 → d < n
      → sum_below (λ i. worth (if nat_eq d i && b then v else none)) n ≡ worth (if b then v else none)
  sum_below-only none v d n b nothing d_in =
      let one = sum_below-one (λ i. none) (λ i. v) d n b d_in in
      by b one
    where
      by : (b : Bool) → sum_below (λ i. worth (if nat_eq d i && b then v else none)) n
          ≡ sum_below (λ i. worth none) n +ℤ (if b then worth v -ℤ worth none else pos 0)
          → sum_below (λ i. worth (if nat_eq d i && b then v else none)) n ≡ worth (if b then v else none)
      by true one = omega (arith, ints, one, sum_below-zeros (λ i. worth none) n (λ i i_in. nothing), nothing)
      by false one = omega (arith, ints, one, sum_below-zeros (λ i. worth none) n (λ i i_in. nothing), nothing)
