-- How often an amount rises: in the table, when one is added and when one is dropped, and in a list.
use Rattle.std.proofs.Common.{◌≡◌, ℕ, zero, suc, ◌+◌, ◌-◌, ◌<◌, ◌≤◌, ◌&&◌, Bool, true, false, List, [], ◌∷◌, length}
use Rattle.std.proofs.Common.{get_or, Option, Some, None, is_some, Contains, ℤ, pos, refl, sym, ap, ◌∙◌, arith, nat_eq}
use Rattle.std.proofs.Common.{if◌then◌else◌, eq-eqb, eqb-true, ne_eqb, inl, inr}
use Rattle.std.specs.Prelude.{◌↔◌, IsTrue, MatchOption}
use Rattle.std.specs.Ordering.{int_eq}
use Rattle.std.proofs.lemmas.Bool.{and_parts, cases_eq}
use Rattle.std.proofs.lemmas.Bool.Decides.{Decides-int_eq}
use Rattle.std.proofs.lemmas.Int.{ints}
use Rattle.vms_history.specs.Common.{count_below}
use Rattle.vms_history.proofs.Common.{count_below-same, get_or-set, if-either, if-map, pos-count_below}
use Rattle.vms_history.proofs.Common.{sum_below-changed}
use Rattle.vms_group_core.specs.Common.{is_parent, without}
use Rattle.vms_group_registers.specs.declared.rises.Rise.{Rise}
use Rattle.vms_group_registers.specs.declared.rises.Rises.{Rises}
use Rattle.vms_group_registers.specs.Rises.{IsRise, added, blank, dropped, is_rise, rise_at, times, times_rising}
use Rattle.vms_group_registers.specs.Rises.{with_risen}

-- the test tells
is_rise-true : (s g : ℕ) (a : ℤ) (rise : Rise) → is_rise s g a rise ≡ true → IsRise s g a rise
is_rise-true s g a rise is =
    let first = and_parts (nat_eq rise.slot s) (nat_eq rise.group g && int_eq rise.amount a) is in
    let second = and_parts (nat_eq rise.group g) (int_eq rise.amount a) first.1 in (
      eqb-true rise.slot s first.0,
      eqb-true rise.group g second.0,
      (Decides-int_eq rise.amount a).0 second.1,
    )

is_rise-holds : (s g : ℕ) (a : ℤ) (rise : Rise) → IsRise s g a rise → is_rise s g a rise ≡ true
is_rise-holds s g a rise is =
    rw (eq-eqb rise.slot s is.0, eq-eqb rise.group g is.1, (Decides-int_eq rise.amount a).1 is.2) refl

-- a sum is 0 where each number is, and each is at most the sum
count_below-none : (f : ℕ → ℕ) (n : ℕ) → ((i : ℕ) → i < n → f i ≡ 0) → count_below f n ≡ 0
count_below-none f zero none = refl
count_below-none f (suc n) none =
    omega (arith, none n (omega arith), count_below-none f n (λ i below. none i (omega arith)))

count_below-each : (f : ℕ → ℕ) (n i : ℕ) → i < n → f i ≤ count_below f n
count_below-each f zero i below = absurd (omega arith)
count_below-each f (suc n) i below = elim (cases_eq i n) [
  | inl last ↦ let here : f i ≡ f n = ap f last in omega arith
  | inr other ↦ omega (arith, count_below-each f n i (omega arith))
]

-- the last number takes the place of another
count_below-moved : (f g : ℕ → ℕ) (k n : ℕ) → k ≤ n → ((i : ℕ) → i < n → g i ≡ (if nat_eq k i then f n else f i))
    → count_below g n + f k ≡ f n + count_below f n
count_below-moved f g k n k_in is = elim (cases_eq k n) [
  | inl last ↦
      let same : count_below g n ≡ count_below f n =
      count_below-same g f n (λ i below.
      let other : nat_eq k i ≡ false = ne_eqb k i (λ e. absurd (omega (arith, e, last, below))) in
      is i below ∙ rw other refl) in
      let here : f k ≡ f n = ap f last in
      omega arith
  | inr before ↦
      let here : g k ≡ f n = is k (omega arith) ∙ rw (eq-eqb k k refl) refl in
      let changed = sum_below-changed (λ i. pos (f i)) (λ i. pos (g i)) k n (omega arith)
      (λ i below other.
      let differs : nat_eq k i ≡ false = ne_eqb k i (λ e. other (sym e)) in
      ap pos (is i below ∙ rw differs refl)) in
      omega (arith, ints, changed, pos-count_below f n, pos-count_below g n, here)
]

module _ (rises : Rises) (s g : ℕ) (a : ℤ) where
  pub times-some : (i : ℕ) → i < rises.count → IsRise s g a (rise_at rises i) → 0 < times_rising rises s g a
  times-some i below is =
      let here : ◌≡◌ {A = ℕ} (if is_rise s g a (rise_at rises i) then 1 else 0) 1 =
      rw (is_rise-holds s g a (rise_at rises i) is) refl in
      let each = count_below-each (λ k. if is_rise s g a (rise_at rises k) then 1 else 0) rises.count i below in
      omega (arith, each, here)

  pub times-none : ((i : ℕ) → i < rises.count → ¬ IsRise s g a (rise_at rises i)) → times_rising rises s g a ≡ 0
  times-none none =
      count_below-none (λ k. if is_rise s g a (rise_at rises k) then 1 else 0) rises.count
      (λ i below. by (rise_at rises i) (is_rise s g a (rise_at rises i)) refl (none i below))
    where
      by : (rise : Rise) (b : Bool) → is_rise s g a rise ≡ b → ¬ IsRise s g a rise
          → ◌≡◌ {A = ℕ} (if b then 1 else 0) 0
      by rise true is never = absurd (never (is_rise-true s g a rise is))
      by rise false is never = refl

  pub found-times : (found : Option ℕ)
      → MatchOption found ((i : ℕ) → i < rises.count → ¬ IsRise s g a (rise_at rises i))
      (λ i. (i < rises.count) × IsRise s g a (rise_at rises i))
      → IsTrue (is_some found) ↔ (0 < times_rising rises s g a)
  found-times None none = (λ yes. absurd cc, λ some. absurd (omega (arith, times-none none, some)))
  found-times (Some i) is = (λ yes. times-some i is.0 is.1, λ some. refl)

  pub times-added : (rise : Rise) → rises.count < length rises.items
      → times_rising (added rise rises) s g a
      ≡ (if is_rise s g a rise then 1 else 0) + times_rising rises s g a
  times-added rise within =
      let test : Rise → ℕ = λ x. if is_rise s g a x then 1 else 0 in
      let next : ℕ → ℕ = λ i. if is_rise s g a (rise_at (added rise rises) i) then 1 else 0 in
      let more : rises.count + 1 ≡ suc rises.count = omega arith in
      let here : next rises.count ≡ test rise =
      ap test (get_or-set rises.items rises.count rises.count rise blank within
      ∙ rw (eq-eqb rises.count rises.count refl) refl) in
      let others : count_below next rises.count ≡ times_rising rises s g a =
      count_below-same next (λ i. if is_rise s g a (rise_at rises i) then 1 else 0) rises.count (λ i below.
      let differs : nat_eq rises.count i ≡ false = ne_eqb rises.count i (omega arith) in
      ap test (get_or-set rises.items rises.count i rise blank within ∙ rw differs refl)) in
      ap (count_below next) more ∙ omega (arith, here, others)

  pub times-dropped : (at : ℕ) → at < rises.count → rises.count ≤ length rises.items
      → times_rising (dropped at rises) s g a + (if is_rise s g a (rise_at rises at) then 1 else 0)
      ≡ times_rising rises s g a
  times-dropped at below fits =
      let test : Rise → ℕ = λ x. if is_rise s g a x then 1 else 0 in
      let now : ℕ → ℕ = λ i. if is_rise s g a (rise_at rises i) then 1 else 0 in
      let next : ℕ → ℕ = λ i. if is_rise s g a (rise_at (dropped at rises) i) then 1 else 0 in
      let less : suc (rises.count - 1) ≡ rises.count = omega arith in
      let within : at < length rises.items = omega arith in
      count_below-moved now next at (rises.count - 1) (omega arith) (λ i i_below.
      ap test (get_or-set rises.items at i (rise_at rises (rises.count - 1)) blank within)
      ∙ if-map test (nat_eq at i) (rise_at rises (rises.count - 1)) (rise_at rises i))
      ∙ ap (count_below now) less

-- how often an amount stands in a list
pub contains-times : (a : ℤ) (amounts : List ℤ) → Contains amounts a → 0 < times a amounts
contains-times a amounts has = at amounts has.0 has.1 has.2
  where
    at : (xs : List ℤ) (k : ℕ) → k < length xs → get_or xs k a ≡ a → 0 < times a xs
    at [] k below is = absurd (omega arith)
    at (b ∷ xs) zero below is =
        let same : int_eq b a ≡ true = (Decides-int_eq b a).1 is in
        rw same (omega arith)
    at (b ∷ xs) (suc k) below is = omega (arith, at xs k (omega arith) is)

pub times-contains : (a : ℤ) (amounts : List ℤ) → 0 < times a amounts → Contains amounts a
times-contains a [] some = absurd (omega arith)
times-contains a (b ∷ amounts) some = by (int_eq b a) refl (times-contains a amounts) some
  where
    by : (t : Bool) → int_eq b a ≡ t → (0 < times a amounts → Contains amounts a)
        → 0 < (if t then 1 else 0) + times a amounts → Contains (b ∷ amounts) a
    by true is later some = (0, omega arith, (Decides-int_eq b a).0 is)
    by false is later some =
        let rest = later (omega arith) in
        let below = rest.1 in
        (suc rest.0, omega arith, rest.2)

pub none-empty : (amounts : List ℤ) → ((a : ℤ) → times a amounts ≡ 0) → amounts ≡ []
none-empty [] none = refl
none-empty (b ∷ amounts) none =
    let same : int_eq b b ≡ true = (Decides-int_eq b b).1 refl in
    let nothing : 1 + times b amounts ≡ 0 = rw same at (none b) in
    absurd (omega (arith, nothing))

-- without one of them
times-without : (a b : ℤ) (amounts : List ℤ) → 0 < times b amounts
    → times a (without b amounts) + (if int_eq b a then 1 else 0) ≡ times a amounts
times-without a b [] some = absurd (omega arith)
times-without a b (c ∷ amounts) some = by (int_eq c b) refl (times-without a b amounts) some
  where
    by : (t : Bool) → int_eq c b ≡ t
        → (0 < times b amounts
        → times a (without b amounts) + (if int_eq b a then 1 else 0) ≡ times a amounts)
        → 0 < (if t then 1 else 0) + times b amounts
        → times a (if t then amounts else c ∷ without b amounts) + (if int_eq b a then 1 else 0)
        ≡ (if int_eq c a then 1 else 0) + times a amounts
    by true is later some =
        let same : c ≡ b = (Decides-int_eq c b).0 is in
        let here : ◌≡◌ {A = ℕ} (if int_eq c a then 1 else 0) (if int_eq b a then 1 else 0) =
        ap (λ (x : ℤ). if int_eq x a then 1 else 0) same in
        omega (arith, here)
    by false is later some = let rest = later (omega arith) in omega (arith, rest)

-- what a step makes of the amounts that rise from a slot to a group, and of the list of them
module _ (rises : Rises) (slot s g : ℕ) (b : ℤ) (amounts : List ℤ)
    (same : times_rising rises s g b ≡ times b amounts) where
  pub times-risen : (a : ℤ) (parent : Option ℕ)
      → ((y : ℕ) → parent ≡ Some y → rises.count < length rises.items)
      → times_rising (with_risen slot parent a rises) s g b
      ≡ (if nat_eq slot s then times b (if is_parent parent g then a ∷ amounts else amounts) else times b amounts)
  times-risen a None within = same ∙ sym (if-either (nat_eq slot s) (times b amounts))
  times-risen a (Some y) within =
      times-added rises s g b (record { slot = slot; group = y; amount = a }) (within y refl)
      ∙ ap (λ n. (if nat_eq slot s && (nat_eq y g && int_eq a b) then 1 else 0) + n) same
      ∙ by (nat_eq slot s) (nat_eq y g) (int_eq a b) refl
    where
      by : (t u v : Bool) → int_eq a b ≡ v → (if t && (u && v) then 1 else 0) + times b amounts
          ≡ (if t then times b (if u then a ∷ amounts else amounts) else times b amounts)
      by true true v is = ap (λ (x : Bool). (if x then 1 else 0) + times b amounts) (sym is)
      by true false v is = omega arith
      by false u v is = omega arith

  pub times-fallen : (a : ℤ) (x at : ℕ) → at < rises.count → rises.count ≤ length rises.items
      → IsRise slot x a (rise_at rises at)
      → (nat_eq slot s ≡ true → nat_eq x g ≡ true → 0 < times a amounts)
      → times_rising (dropped at rises) s g b
      ≡ (if nat_eq slot s then times b (if nat_eq x g then without a amounts else amounts) else times b amounts)
  times-fallen a x at below fits is some =
      let test : is_rise s g b (rise_at rises at) ≡ (nat_eq slot s && (nat_eq x g && int_eq a b)) =
      rw (is.0, is.1, is.2) refl in
      let total : times_rising (dropped at rises) s g b
      + (if nat_eq slot s && (nat_eq x g && int_eq a b) then 1 else 0) ≡ times b amounts =
      ap (λ (t : Bool). times_rising (dropped at rises) s g b + (if t then 1 else 0)) (sym test)
      ∙ times-dropped rises s g b at below fits ∙ same in
      by (nat_eq slot s) (nat_eq x g) some (times_rising (dropped at rises) s g b) total
    where
      by : (t u : Bool) → (t ≡ true → u ≡ true → 0 < times a amounts) → (n : ℕ)
          → n + (if t && (u && int_eq a b) then 1 else 0) ≡ times b amounts
          → n ≡ (if t then times b (if u then without a amounts else amounts) else times b amounts)
      by true true some n total = let less = times-without b a amounts (some refl refl) in omega (arith, less, total)
      by true false some n total = omega (arith, total)
      by false u some n total = omega (arith, total)
