-- Sums in which one number alone counts, and sums of sums.
use Rattle.std.proofs.Common.{◌≡◌, ◌≢◌, ℕ, zero, suc, ◌+◌, ◌<◌, ◌≤◌, ◌⊎◌, inl, inr, ℤ, pos, ◌+ℤ◌, refl, sym, ap, ◌∙◌}
use Rattle.std.proofs.Common.{arith, subst, if◌then◌else◌, nat_eq, ne_eqb, eq-eqb}
use Rattle.std.proofs.lemmas.Int.{ints}
use Rattle.vms_calls.specs.Common.{count_below, sum_below}
use Rattle.std.proofs.lemmas.Bool.{cases_eq, cases_lt}
use Rattle.vms_history.proofs.Common.{count_below-sum, pos-count_below, sum_below-changed, sum_below-sum}
use Rattle.vms_history.proofs.Common.{sum_below-zeros, zero_or_not}

-- all of the first n numbers are 0, or one isn't
pub all_or_one : (f : ℕ → ℤ) (n : ℕ)
    → ((i : ℕ) → i < n → f i ≡ pos 0) ⊎ ((i : ℕ) × (i < n) × (f i ≢ pos 0))
all_or_one f zero = inl (λ i below. absurd (omega arith))
all_or_one f (suc n) =
    elim (all_or_one f n) [
      | inl zeros ↦ elim (zero_or_not (f n)) [
        | inl is ↦ inl (λ i below. by i below zeros is)
        | inr some ↦ inr (n, omega arith, some)
      ]
      | inr (i, below, some) ↦ inr (i, omega arith, some)
    ]
  where
    by : (i : ℕ) → i < suc n → ((i : ℕ) → i < n → f i ≡ pos 0) → f n ≡ pos 0 → f i ≡ pos 0
    by i below zeros last = elim (cases_lt i n) [
      | inl less ↦ zeros i less
      | inr not ↦ let same : i ≡ n = omega arith in ap f same ∙ last
    ]

-- one alone counts
pub sum_below-single : (f : ℕ → ℤ) (k n : ℕ) → k < n → ((i : ℕ) → i < n → i ≢ k → f i ≡ pos 0) → sum_below f n ≡ f k
sum_below-single f k n below others =
    let changed = sum_below-changed (λ i. pos 0) f k n below others in
    let none = sum_below-zeros (λ i. pos 0) n (λ i i_below. refl) in
    omega (arith, ints, changed, none)

-- a number at one place
pub sum_below-at : (v : ℤ) (k n : ℕ) → k < n → sum_below (λ i. if nat_eq k i then v else pos 0) n ≡ v
sum_below-at v k n below =
    sum_below-single (λ i. if nat_eq k i then v else pos 0) k n below
    (λ i i_below other. rw (ne_eqb k i (λ same. other (sym same))) refl)
    ∙ (rw (eq-eqb k k refl) refl)

pub count_below-at : (v k n : ℕ) → k < n → count_below (λ i. if nat_eq k i then v else 0) n ≡ v
count_below-at v k n below =
    let all = pos-count_below (λ i. if nat_eq k i then v else 0) n in
    let one = sum_below-single (λ i. pos (if nat_eq k i then v else 0)) k n below
    (λ i i_below other. rw (ne_eqb k i (λ same. other (sym same))) refl) in
    let here : (if nat_eq k k then v else 0) ≡ v = rw (eq-eqb k k refl) refl in
    omega (arith, ints, all, one, here)

-- a sum of sums in either order
pub sum_below-swapped : (f : ℕ → ℕ → ℤ) (m n : ℕ)
    → sum_below (λ i. sum_below (f i) n) m ≡ sum_below (λ j. sum_below (λ i. f i j) m) n
sum_below-swapped f zero n = sym (sum_below-zeros (λ j. pos 0) n (λ j below. refl))
sum_below-swapped f (suc m) n =
    ap (λ z. sum_below (f m) n +ℤ z) (sum_below-swapped f m n)
    ∙ sym (sum_below-sum (f m) (λ j. sum_below (λ i. f i j) m) n)

pub count_below-zeros : (n : ℕ) → count_below (λ i. 0) n ≡ 0
count_below-zeros zero = refl
count_below-zeros (suc n) = omega (arith, count_below-zeros n)

pub count_below-swapped : (f : ℕ → ℕ → ℕ) (m n : ℕ)
    → count_below (λ i. count_below (f i) n) m ≡ count_below (λ j. count_below (λ i. f i j) m) n
count_below-swapped f zero n = sym (count_below-zeros n)
count_below-swapped f (suc m) n =
    ap (λ z. count_below (f m) n + z) (count_below-swapped f m n)
    ∙ sym (count_below-sum (f m) (λ j. count_below (λ i. f i j) m) n)

-- one number is at most the sum
pub count_below-each : (f : ℕ → ℕ) (k n : ℕ) → k < n → f k ≤ count_below f n
count_below-each f k zero below = absurd (omega arith)
count_below-each f k (suc n) below = elim (cases_lt k n) [
  | inl less ↦ omega (arith, count_below-each f k n less)
  | inr not ↦ let same : k ≡ n = omega arith in subst (λ j. f j ≤ count_below f (suc n)) (sym same) (omega arith)
]

-- where all others are 0, the sum is at most what bounds the one
pub count_below-none : (f : ℕ → ℕ) (n : ℕ) → ((i : ℕ) → i < n → f i ≡ 0) → count_below f n ≡ 0
count_below-none f zero none = refl
count_below-none f (suc n) none =
    omega (arith, none n (omega arith), count_below-none f n (λ i less. none i (omega arith)))

pub count_below-one : (f : ℕ → ℕ) (c n most : ℕ) → (c < n → f c ≤ most) → ((i : ℕ) → c ≢ i → f i ≡ 0)
    → count_below f n ≤ most
count_below-one f c zero most within none = omega arith
count_below-one f c (suc n) most within none = elim (cases_eq c n) [
  | inl last ↦
      let one : f n ≤ most = subst (λ i. f i ≤ most) last (within (omega (arith, last))) in
      omega (arith, one, count_below-none f n (λ i less. none i (λ is. omega arith)))
  | inr other ↦ omega (arith, none n other, count_below-one f c n most (λ less. within (omega arith)) none)
]
