-- For other crates too: counters that were folded one after another.
use Rattle.std.proofs.Common.{◌≡◌, ◌≢◌, ℕ, zero, suc, ◌+◌, ◌<◌, ◌≤◌, ◌⊎◌, inl, inr, nat_eq, ℤ, pos, ◌+ℤ◌, unsigned_abs}
use Rattle.std.proofs.Common.{List, if◌then◌else◌, refl, sym, ap, subst, ◌∙◌, arith}
use Rattle.std.proofs.lemmas.Bool.{cases_eq, cases_lt}
use Rattle.std.proofs.lemmas.Int.{ints}
use Rattle.vms_calls.specs.Common.{Shape, IsCounter, IsCpu, counter_count, item_of, most_threshold, sum_below, State}
use Rattle.vms_calls.specs.Common.{HasShape, diff_at, system_at, value_at}
use Rattle.vms_history.proofs.Common.{sum_below-same}
use Rattle.vms_plain_pages.specs.Common.{IsSmallState, FoldsCounters, IsOutside, part_of_item}

-- a counter is one of those from k on, or none of them
pub inside_or_out : (k n l : ℕ) → ((k ≤ l) × (l < k + n)) ⊎ IsOutside k n l
inside_or_out k n l = elim (cases_lt l k) [
  | inl below ↦ inr (inl below)
  | inr from ↦ elim (cases_lt l (k + n)) [ inl to ↦ inl (from, to) | inr above ↦ inr (inr above) ]
]

pub sum_below-split : (f : ℕ → ℤ) (n m : ℕ)
    → sum_below f (n + m) ≡ sum_below f n +ℤ sum_below (λ q. f (n + q)) m
sum_below-split f n zero = let same : n + 0 ≡ n = omega arith in rw same (omega (arith, ints))
sum_below-split f n (suc m) =
    let more : n + suc m ≡ suc (n + m) = omega arith in
    rw more (omega (arith, ints, sum_below-split f n m))

module _ (shape : Shape) (c : ℕ) where
  pub FoldsCounters-none : (k : ℕ) (s : State) (sums : List ℤ) → HasShape shape s
      → FoldsCounters shape c k 0 s s sums sums
  FoldsCounters-none k s sums shaped = record {
    rest = refl;
    shaped = shaped;
    values = λ l from to. absurd (omega arith);
    other_values = λ l out. refl;
    zeros = λ l from to. absurd (omega arith);
    other_diffs = λ d l d_in l_in out. refl;
    sums = λ i. omega (arith, ints);
  }

  module _ (c_in : IsCpu shape c) (k n m : ℕ) (within : k + (n + m) ≤ counter_count shape) (s mid next : State)
      (before between after : List ℤ) (first : FoldsCounters shape c k n s mid before between)
      (second : FoldsCounters shape c (k + n) m mid next between after) where
    later : (l : ℕ) → k + n ≤ l → l < k + (n + m) → diff_at mid c l ≡ diff_at s c l
    later l from to = first.other_diffs c l c_in (omega arith) (inr (inr from))

    joined-values : (l : ℕ) → k ≤ l → l < k + (n + m) → value_at next l ≡ value_at s l +ℤ diff_at s c l
    joined-values l from to = elim (cases_lt l (k + n)) [
      | inl less ↦ second.other_values l (inl less) ∙ first.values l from less
      | inr more ↦
          omega (arith, ints, second.values l more (omega arith), first.other_values l (inr more), later l more to)
    ]

    joined-other_values : (l : ℕ) → IsOutside k (n + m) l → value_at next l ≡ value_at s l
    joined-other_values l (inl below) = second.other_values l (inl (omega arith)) ∙ first.other_values l (inl below)
    joined-other_values l (inr above) =
        second.other_values l (inr (omega arith)) ∙ first.other_values l (inr (omega arith))

    joined-zeros : (l : ℕ) → k ≤ l → l < k + (n + m) → diff_at next c l ≡ pos 0
    joined-zeros l from to = elim (cases_lt l (k + n)) [
      | inl less ↦ second.other_diffs c l c_in (omega arith) (inr (inl less)) ∙ first.zeros l from less
      | inr more ↦ second.zeros l more (omega arith)
    ]

    joined-other_diffs : (d l : ℕ) → IsCpu shape d → IsCounter shape l → (d ≢ c) ⊎ IsOutside k (n + m) l
        → diff_at next d l ≡ diff_at s d l
    joined-other_diffs d l d_in l_in (inl other) =
        second.other_diffs d l d_in l_in (inl other) ∙ first.other_diffs d l d_in l_in (inl other)
    joined-other_diffs d l d_in l_in (inr (inl below)) =
        second.other_diffs d l d_in l_in (inr (inl (omega arith))) ∙ first.other_diffs d l d_in l_in (inr (inl below))
    joined-other_diffs d l d_in l_in (inr (inr above)) =
        second.other_diffs d l d_in l_in (inr (inr (omega arith)))
        ∙ first.other_diffs d l d_in l_in (inr (inr (omega arith)))

    part-joined : (i : ℕ)
        → part_of_item shape s c i k (n + m) ≡ part_of_item shape s c i k n +ℤ part_of_item shape mid c i (k + n) m
    part-joined i = omega (
      arith,
      ints,
      sum_below-split (λ q. if nat_eq (item_of shape (k + q)) i then diff_at s c (k + q) else pos 0) n m,
      sum_below-same (λ q. if nat_eq (item_of shape (k + (n + q))) i then diff_at s c (k + (n + q)) else pos 0)
          (λ q. if nat_eq (item_of shape (k + n + q)) i then diff_at mid c (k + n + q) else pos 0) m same,
    )
      where
        same : (q : ℕ) → q < m
            → (if nat_eq (item_of shape (k + (n + q))) i then diff_at s c (k + (n + q)) else pos 0)
            ≡ (if nat_eq (item_of shape (k + n + q)) i then diff_at mid c (k + n + q) else pos 0)
        same q less =
            let at : k + (n + q) ≡ k + n + q = omega arith in
            ap (λ l. if nat_eq (item_of shape l) i then diff_at s c l else pos 0) at
            ∙ ap (λ z. if nat_eq (item_of shape (k + n + q)) i then z else pos 0)
            (sym (later (k + n + q) (omega arith) (omega arith)))

    pub FoldsCounters-append : FoldsCounters shape c k (n + m) s next before after
    FoldsCounters-append = record {
      rest = second.rest
          ∙ ap (λ (x : State). record x { place = next.place; diff = next.diff; acknowledged = next.acknowledged })
          first.rest;
      shaped = second.shaped;
      values = joined-values;
      other_values = joined-other_values;
      zeros = joined-zeros;
      other_diffs = joined-other_diffs;
      sums = λ i. omega (arith, ints, first.sums i, second.sums i, part-joined i);
    }

  -- there is room for more
  pub IsSmallState-folded : IsCpu shape c → (most k n : ℕ) (s next : State) (before after : List ℤ)
      → IsSmallState shape most s → FoldsCounters shape c k n s next before after → IsSmallState shape (most + 125) next
  IsSmallState-folded c_in most k n s next before after room folds = record {
    shaped = folds.shaped;
    values = λ l l_in. elim (inside_or_out k n l) [
      | inl within ↦ let small = room.values l l_in in
          let few = room.diffs c l c_in l_in in
          omega (arith, ints, folds.values l within.0 within.1)
      | inr out ↦ let small = room.values l l_in in omega (arith, ints, folds.other_values l out)
    ];
    systems = λ i i_in. let same : system_at next i ≡ system_at s i = ap (λ (x : State). system_at x i) folds.rest in
        let small = room.systems i i_in in
        omega (arith, ints, same);
    diffs = λ d l d_in l_in. elim (cases_eq d c) [
      | inl same ↦ elim (inside_or_out k n l) [
        | inl within ↦ subst (λ e. unsigned_abs (diff_at next e l) ≤ most_threshold) (sym same)
            (subst (λ z. unsigned_abs z ≤ most_threshold) (sym (folds.zeros l within.0 within.1)) (omega arith))
        | inr out ↦ subst (λ z. unsigned_abs z ≤ most_threshold) (sym (folds.other_diffs d l d_in l_in (inr out)))
            (room.diffs d l d_in l_in)
      ]
      | inr other ↦ subst (λ z. unsigned_abs z ≤ most_threshold)
          (sym (folds.other_diffs d l d_in l_in (inl other))) (room.diffs d l d_in l_in)
    ];
  }
