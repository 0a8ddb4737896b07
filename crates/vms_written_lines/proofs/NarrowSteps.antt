-- For other crates too: a step is the one of its own numbers, and the numbers of a step are those that it was made of.
use Rattle.std.proofs.Common.{◌≡◌, ℕ, suc, ◌<◌, ◌^◌, ◌&&◌, Bool, true, false, ℤ, pos, negsuc, List, [], ◌∷◌, Option}
use Rattle.std.proofs.Common.{Some, None, option_map, refl, sym, ◌∙◌, ap, subst, arith, nat_lt}
use Rattle.std.proofs.Math.Dec.{T_prop}
use Rattle.std.proofs.lemmas.Bool.Decides.{nat_tests}
use Rattle.std.proofs.lemmas.Int.{ints}
use Rattle.std.specs.Prelude.{IfSome, option_and_then, if◌then◌else◌}
use Rattle.vms_history.specs.Common.{AreBytes, Diffs, IsByte}
use Rattle.vms_core.specs.declared.steps.Step.{Step}
use Rattle.vms_core.specs.declared.steps.Step.TheVariants as steps
use Rattle.vms_written_lines.specs.declared.wide_steps.WideStep.{WideStep}
use Rattle.vms_written_lines.specs.declared.wide_steps.WideStep.TheVariants.{LoadT, LoadD, Put, Miss, AddG, AddS, Take}
use Rattle.vms_written_lines.specs.declared.wide_steps.WideStep.TheVariants.{LoadG, LoadS, LoadM, LoadO, SetT, SetM}
use Rattle.vms_written_lines.specs.declared.wide_steps.WideStep.TheVariants.{SetO, SetA, LoadA, Split, Join}
use Rattle.vms_written_lines.specs.WideSteps.{AreBytes-holds, are_bytes, diffs_if, diffs_of, is_byte, small}
use Rattle.vms_written_lines.specs.WideSteps.{small_if_any, step_of, widened}

-- lists of the same entries are one
are_bytes-prop : (values : List ℤ) → IsProp (AreBytes values)
are_bytes-prop values = hlevel T_prop

list_of : (values : List ℤ) → AreBytes values → Diffs
list_of values bytes = record { values = values; bytes = bytes }

pub same-list : (w v : Diffs) → w.values ≡ v.values → w ≡ v
unfolding list_of
same-list w v same =
    subst (λ (values : List ℤ). (bytes : AreBytes values) → w ≡ list_of values bytes) same
    (λ bytes. ap (list_of w.values) (are_bytes-prop w.values w.bytes bytes)) v.bytes

pub is_byte-own : (z : ℤ) → IsByte z → is_byte z ≡ true
is_byte-own (pos n) is = let below : n < 128 = omega (arith, ints) in grind (arith, nat_tests)
is_byte-own (negsuc n) is = let below : n < 128 = omega (arith, ints) in grind (arith, nat_tests)

pub are_bytes-own : (w : List ℤ) → AreBytes w → are_bytes w ≡ true
are_bytes-own [] are = refl
are_bytes-own (z ∷ w) are =
    ap (λ b. b && are_bytes w) (is_byte-own z (are 0)) ∙ are_bytes-own w (λ k. are (suc k))

-- differentials that fit a byte each
pub diffs_of-is : (w : List ℤ) (d : Diffs) → d.values ≡ w → are_bytes w ≡ true → diffs_of w ≡ Some d
diffs_of-is w d same are = by (are_bytes w) refl are
  where
    by : (b : Bool) (is : are_bytes w ≡ b) → b ≡ true → diffs_if w b is ≡ Some d
    by true is holds = ap (λ list. Some list) (same-list (record { values = w; bytes = AreBytes-holds w is }) d (sym same))
    by false is holds = absurd cc

pub diffs_of-none : (w : List ℤ) → are_bytes w ≡ false → diffs_of w ≡ None
diffs_of-none w none = by (are_bytes w) refl none
  where
    by : (b : Bool) (is : are_bytes w ≡ b) → b ≡ false → diffs_if w b is ≡ None
    by true is fails = absurd cc
    by false is fails = refl

pub diffs_of-own : (w : Diffs) → diffs_of w.values ≡ Some w
diffs_of-own w = diffs_of-is w.values w refl (are_bytes-own w.values w.bytes)

small-own : (n : ℕ) → n < 2 ^ 32 → small n ≡ Some n
small-own n fits =
    let below : nat_lt n (2 ^ 32) ≡ true = grind (arith, nat_tests) in
    ap (λ b. if b then Some n else None) below

pub small_if_any-own : (x : Option ℕ) → IfSome x (λ n. n < 2 ^ 32) → small_if_any x ≡ Some x
small_if_any-own None fits = refl
small_if_any-own (Some n) fits = ap (option_map (λ m. Some m)) (small-own n fits)

-- the numbers of a step are in their ranges
abbrev pub IsNarrow : Step → Type 0
IsNarrow (steps.LoadT g t a) = (t < 2 ^ 32) × (a < 2 ^ 32)
IsNarrow (steps.Put k w t delta how) = t < 2 ^ 32
IsNarrow (steps.LoadM g m a) = a < 2 ^ 32
IsNarrow (steps.SetT c g t) = t < 2 ^ 32
IsNarrow (steps.SetA g a) = a < 2 ^ 32
IsNarrow (steps.LoadA c g x) = IfSome x (λ a. a < 2 ^ 32)
IsNarrow (steps.Split q c) = q < 2 ^ 32
IsNarrow (steps.Join q) = q < 2 ^ 32
IsNarrow _ = Unit {0}

-- a step is the one of its own numbers
pub step_of-widened : (step : Step) → IsNarrow step → step_of (widened step) ≡ Some step
step_of-widened (steps.LoadT g t a) (first, second) =
    ap (option_and_then (λ t. option_map (λ a. steps.LoadT g t a) (small a))) (small-own t first)
    ∙ ap (option_map (λ a. steps.LoadT g t a)) (small-own a second)
step_of-widened (steps.LoadD c j w) is = ap (option_map (λ w. steps.LoadD c j w)) (diffs_of-own w)
step_of-widened (steps.Put k w t delta how) is =
    ap (option_and_then (λ w. option_map (λ t. steps.Put k w t delta how) (small t))) (diffs_of-own w)
    ∙ ap (option_map (λ t. steps.Put k w t delta how)) (small-own t is)
step_of-widened (steps.Miss j w) is = ap (option_map (λ w. steps.Miss j w)) (diffs_of-own w)
step_of-widened (steps.AddG k a) is = refl
step_of-widened (steps.AddS s a) is = refl
step_of-widened (steps.Take c j w) is = ap (option_map (λ w. steps.Take c j w)) (diffs_of-own w)
step_of-widened (steps.LoadG k v) is = refl
step_of-widened (steps.LoadS s v) is = refl
step_of-widened (steps.LoadM g m a) is = ap (option_map (λ a. steps.LoadM g m a)) (small-own a is)
step_of-widened (steps.LoadO c x) is = refl
step_of-widened (steps.SetT c g t) is = ap (option_map (λ t. steps.SetT c g t)) (small-own t is)
step_of-widened (steps.SetM g m) is = refl
step_of-widened (steps.SetO c) is = refl
step_of-widened (steps.SetA g a) is = ap (option_map (λ a. steps.SetA g a)) (small-own a is)
step_of-widened (steps.LoadA c g x) is = ap (option_map (λ x. steps.LoadA c g x)) (small_if_any-own x is)
step_of-widened (steps.Split q c) is = ap (option_map (λ q. steps.Split q c)) (small-own q is)
step_of-widened (steps.Join q) is = ap (option_map (λ q. steps.Join q)) (small-own q is)

-- what holds of what is made of a number that fits holds of what is made, if anything
module _ {A : Type 0} (P : A → Type 0) where
  made-small : (n : ℕ) (make : ℕ → A) → P (make n) → IfSome (option_map make (small n)) P
  made-small n make holds = by (nat_lt n (2 ^ 32))
    where
      by : (b : Bool) → IfSome (option_map make (if b then Some n else None)) P
      by true = holds
      by false = tt

  then-small : (n : ℕ) (make : ℕ → Option A) → IfSome (make n) P → IfSome (option_and_then make (small n)) P
  then-small n make holds = by (nat_lt n (2 ^ 32))
    where
      by : (b : Bool) → IfSome (option_and_then make (if b then Some n else None)) P
      by true = holds
      by false = tt

  made-any : (x : Option ℕ) (make : Option ℕ → A) → P (make x) → IfSome (option_map make (small_if_any x)) P
  made-any None make holds = holds
  made-any (Some n) make holds = by (nat_lt n (2 ^ 32))
    where
      by : (b : Bool) → IfSome (option_map make (option_map (λ m. Some m) (if b then Some n else None))) P
      by true = holds
      by false = tt

  made-diffs : (w : List ℤ) (make : Diffs → A) → ((d : Diffs) → d.values ≡ w → P (make d))
      → IfSome (option_map make (diffs_of w)) P
  made-diffs w make holds = by (are_bytes w) refl
    where
      by : (b : Bool) (is : are_bytes w ≡ b) → IfSome (option_map make (diffs_if w b is)) P
      by true is = holds (record { values = w; bytes = AreBytes-holds w is }) refl
      by false is = tt

  then-diffs : (w : List ℤ) (make : Diffs → Option A) → ((d : Diffs) → d.values ≡ w → IfSome (make d) P)
      → IfSome (option_and_then make (diffs_of w)) P
  then-diffs w make holds = by (are_bytes w) refl
    where
      by : (b : Bool) (is : are_bytes w ≡ b) → IfSome (option_and_then make (diffs_if w b is)) P
      by true is = holds (record { values = w; bytes = AreBytes-holds w is }) refl
      by false is = tt

-- the numbers of the step that is made are those that it is made of
pub widened-step_of : (wide : WideStep) → IfSome (step_of wide) (λ step. widened step ≡ wide)
widened-step_of (LoadT g t a) =
    let P : Step → Type 0 = λ step. widened step ≡ LoadT g t a in
    then-small P t (λ t. option_map (λ a. steps.LoadT g t a) (small a)) (made-small P a (λ a. steps.LoadT g t a) refl)
widened-step_of (LoadD c j w) =
    made-diffs (λ step. widened step ≡ LoadD c j w) w (λ w. steps.LoadD c j w) (λ d same. ap (LoadD c j) same)
widened-step_of (Put k w t delta how) =
    let P : Step → Type 0 = λ step. widened step ≡ Put k w t delta how in
    then-diffs P w (λ w. option_map (λ t. steps.Put k w t delta how) (small t))
    (λ d same. made-small P t (λ t. steps.Put k d t delta how) (ap (λ (list : List ℤ). Put k list t delta how) same))
widened-step_of (Miss j w) =
    made-diffs (λ step. widened step ≡ Miss j w) w (λ w. steps.Miss j w) (λ d same. ap (Miss j) same)
widened-step_of (AddG k a) = refl
widened-step_of (AddS s a) = refl
widened-step_of (Take c j w) =
    made-diffs (λ step. widened step ≡ Take c j w) w (λ w. steps.Take c j w) (λ d same. ap (Take c j) same)
widened-step_of (LoadG k v) = refl
widened-step_of (LoadS s v) = refl
widened-step_of (LoadM g m a) =
    made-small (λ step. widened step ≡ LoadM g m a) a (λ a. steps.LoadM g m a) refl
widened-step_of (LoadO c x) = refl
widened-step_of (SetT c g t) = made-small (λ step. widened step ≡ SetT c g t) t (λ t. steps.SetT c g t) refl
widened-step_of (SetM g m) = refl
widened-step_of (SetO c) = refl
widened-step_of (SetA g a) = made-small (λ step. widened step ≡ SetA g a) a (λ a. steps.SetA g a) refl
widened-step_of (LoadA c g x) = made-any (λ step. widened step ≡ LoadA c g x) x (λ x. steps.LoadA c g x) refl
widened-step_of (Split q c) = made-small (λ step. widened step ≡ Split q c) q (λ q. steps.Split q c) refl
widened-step_of (Join q) = made-small (λ step. widened step ≡ Join q) q (λ q. steps.Join q) refl
