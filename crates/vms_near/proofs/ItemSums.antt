-- Sums over the counters of an item, and how those of one CPU's differentials change.
use Rattle.std.proofs.Common.{◌≡◌, ℕ, ◌/◌, ◌<◌, ◌≤◌, Bool, true, false, ℤ, pos, ◌+ℤ◌, ◌-ℤ◌, refl, sym, ap, ◌∙◌, arith}
use Rattle.std.proofs.Common.{get_or, nat_eq, eqb-true, if◌then◌else◌, unsigned_abs, ◌+◌}
use Rattle.std.proofs.lemmas.Int.{ints}
use Rattle.vms_calls.specs.Common.{Diffs, IsCounter, Shape, count_below, counter_count, first_of_group, group_of}
use Rattle.vms_calls.specs.Common.{item_of, sum_below, entries_of}
use Rattle.vms_history.proofs.Common.{count_below-least, count_below-same, if-cancels, sum_below-same, sum_below-sizes}
use Rattle.vms_history.proofs.Common.{sum_below-sum, sum_below-zeros}
use Rattle.vms_core.proofs.Items.{group_change, if-sum, one_change}
use Rattle.vms_near.proofs.Sums.{count_below-swapped, count_below-zeros, sum_below-swapped}

module _ (shape : Shape) (i : ℕ) where
  -- the sum of a number of each counter of the item
  abbrev pub item_sum : (ℕ → ℤ) → ℤ
  item_sum f = sum_below (λ k. if nat_eq (item_of shape k) i then f k else pos 0) (counter_count shape)

  abbrev pub item_count : (ℕ → ℕ) → ℕ
  item_count f = count_below (λ k. if nat_eq (item_of shape k) i then f k else 0) (counter_count shape)

  pub item_sum-same : (f g : ℕ → ℤ) → ((k : ℕ) → IsCounter shape k → f k ≡ g k) → item_sum f ≡ item_sum g
  item_sum-same f g same = sum_below-same (λ k. if nat_eq (item_of shape k) i then f k else pos 0)
      (λ k. if nat_eq (item_of shape k) i then g k else pos 0) (counter_count shape)
      (λ k k_in. ap (λ z. if nat_eq (item_of shape k) i then z else pos 0) (same k k_in))

  pub item_sum-sum : (f g : ℕ → ℤ) → item_sum (λ k. f k +ℤ g k) ≡ item_sum f +ℤ item_sum g
  item_sum-sum f g =
      sum_below-same (λ k. if nat_eq (item_of shape k) i then f k +ℤ g k else pos 0)
      (λ k. (if nat_eq (item_of shape k) i then f k else pos 0) +ℤ (if nat_eq (item_of shape k) i then g k else pos 0))
      (counter_count shape) (λ k k_in. if-sum (nat_eq (item_of shape k) i) (f k) (g k))
      ∙ sum_below-sum (λ k. if nat_eq (item_of shape k) i then f k else pos 0)
      (λ k. if nat_eq (item_of shape k) i then g k else pos 0) (counter_count shape)

  -- where each number is within a bound, their sum is within that of the bounds
  pub item_sum-sizes : (f : ℕ → ℤ) (g : ℕ → ℕ) → ((k : ℕ) → IsCounter shape k → unsigned_abs (f k) ≤ g k)
      → unsigned_abs (item_sum f) ≤ item_count g
  item_sum-sizes f g within = sum_below-sizes (λ k. if nat_eq (item_of shape k) i then f k else pos 0)
      (λ k. if nat_eq (item_of shape k) i then g k else 0) (counter_count shape)
      (λ k k_in. by (nat_eq (item_of shape k) i) k (within k k_in))
    where
      by : (b : Bool) (k : ℕ) → unsigned_abs (f k) ≤ g k
          → unsigned_abs (if b then f k else pos 0) ≤ (if b then g k else 0)
      by true k small = small
      by false k small = omega arith

  pub item_count-least : (f g : ℕ → ℕ) → ((k : ℕ) → IsCounter shape k → f k ≤ g k) → item_count f ≤ item_count g
  item_count-least f g each = count_below-least (λ k. if nat_eq (item_of shape k) i then f k else 0)
      (λ k. if nat_eq (item_of shape k) i then g k else 0) (counter_count shape)
      (λ k k_in. by (nat_eq (item_of shape k) i) k (each k k_in))
    where
      by : (b : Bool) (k : ℕ) → f k ≤ g k → (if b then f k else 0) ≤ (if b then g k else 0)
      by true k less = less
      by false k less = omega arith

  -- sums over n sums
  pub item_sum-swapped : (f : ℕ → ℕ → ℤ) (n : ℕ)
      → item_sum (λ k. sum_below (λ c. f c k) n) ≡ sum_below (λ c. item_sum (f c)) n
  item_sum-swapped f n =
      sum_below-same (λ k. if nat_eq (item_of shape k) i then sum_below (λ c. f c k) n else pos 0)
      (λ k. sum_below (λ c. if nat_eq (item_of shape k) i then f c k else pos 0) n) (counter_count shape)
      (λ k k_in. inner (nat_eq (item_of shape k) i) k)
      ∙ sum_below-swapped (λ k c. if nat_eq (item_of shape k) i then f c k else pos 0) (counter_count shape) n
    where
      inner : (b : Bool) (k : ℕ) → (if b then sum_below (λ c. f c k) n else pos 0)
          ≡ sum_below (λ c. if b then f c k else pos 0) n
      inner true k = refl
      inner false k = sym (sum_below-zeros (λ c. pos 0) n (λ c c_in. refl))

  pub item_count-swapped : (f : ℕ → ℕ → ℕ) (n : ℕ)
      → item_count (λ k. count_below (λ c. f c k) n) ≡ count_below (λ c. item_count (f c)) n
  item_count-swapped f n =
      count_below-same (λ k. if nat_eq (item_of shape k) i then count_below (λ c. f c k) n else 0)
      (λ k. count_below (λ c. if nat_eq (item_of shape k) i then f c k else 0) n) (counter_count shape)
      (λ k k_in. inner (nat_eq (item_of shape k) i) k)
      ∙ count_below-swapped (λ k c. if nat_eq (item_of shape k) i then f c k else 0) (counter_count shape) n
    where
      inner : (b : Bool) (k : ℕ) → (if b then count_below (λ c. f c k) n else 0)
          ≡ count_below (λ c. if b then f c k else 0) n
      inner true k = refl
      inner false k = sym (count_below-zeros n)

  -- the sum after a change of counter l
  pub item_sum-write : (f : ℕ → ℤ) (l : ℕ) (v : ℤ) → IsCounter shape l
      → item_sum (λ k. if nat_eq l k then v else f k)
      ≡ item_sum f +ℤ (if nat_eq (item_of shape l) i then v -ℤ f l else pos 0)
  item_sum-write f l v l_in =
      let apart = item_sum-same (λ k. if nat_eq l k then v else f k)
      (λ k. f k +ℤ (if nat_eq l k then v -ℤ f l else pos 0)) (λ k k_in. by k (nat_eq l k) refl) in
      let both = item_sum-sum f (λ k. if nat_eq l k then v -ℤ f l else pos 0) in
      let one = one_change (λ k. nat_eq (item_of shape k) i) (counter_count shape) l (v -ℤ f l) l_in in
      omega (arith, ints, apart, both, one)
    where
      by : (k : ℕ) (b : Bool) → nat_eq l k ≡ b
          → (if b then v else f k) ≡ f k +ℤ (if b then v -ℤ f l else pos 0)
      by k true here = let same = ap f (eqb-true l k here) in omega (arith, ints, same)
      by k false other = omega (arith, ints)

  -- and after a group of differentials was taken, whose list tells them
  pub item_sum-take : (f : ℕ → ℤ) (j : ℕ) (w : Diffs) → j < counter_count shape / 8
      → ((n : ℕ) → n < 8 → get_or w.values n (pos 0) ≡ f (first_of_group j + n))
      → item_sum (λ k. if nat_eq j (group_of k) then pos 0 else f k) +ℤ entries_of shape i j w ≡ item_sum f
  item_sum-take f j w j_in told =
      let out : ℕ → ℤ = λ k. pos 0 -ℤ f k in
      let apart = item_sum-same (λ k. if nat_eq j (group_of k) then pos 0 else f k)
      (λ k. f k +ℤ (if nat_eq j (group_of k) then out k else pos 0)) (λ k k_in. by k (nat_eq j (group_of k))) in
      let both = item_sum-sum f (λ k. if nat_eq j (group_of k) then out k else pos 0) in
      let group = group_change (λ k. nat_eq (item_of shape k) i) (counter_count shape) j out j_in in
      let first : ℕ → ℤ = λ n.
      if nat_eq (item_of shape (first_of_group j + n)) i then out (first_of_group j + n) else pos 0 in
      let second : ℕ → ℤ = λ n.
      if nat_eq (item_of shape (first_of_group j + n)) i then get_or w.values n (pos 0) else pos 0 in
      let none : sum_below (λ n. first n +ℤ second n) 8 ≡ pos 0 =
      sum_below-zeros (λ n. first n +ℤ second n) 8 (λ n less.
      if-cancels (nat_eq (item_of shape (first_of_group j + n)) i) (f (first_of_group j + n))
      (get_or w.values n (pos 0)) (λ here. told n less)) in
      omega (arith, ints, apart, both, group, none, sum_below-sum first second 8)
    where
      by : (k : ℕ) (b : Bool) → (if b then pos 0 else f k) ≡ f k +ℤ (if b then pos 0 -ℤ f k else pos 0)
      by k true = omega (arith, ints)
      by k false = omega (arith, ints)
