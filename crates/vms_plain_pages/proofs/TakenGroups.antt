-- For other crates too: a group that a fold takes: each of its differentials is added to a global value and to a sum.
use Rattle.std.proofs.Common.{◌≡◌, ◌≢◌, ℕ, zero, suc, ◌+◌, ◌-◌, ◌*◌, ◌<◌, ◌≤◌, ◌⊎◌, inl, inr, nat_eq, ◌&&◌, Bool, true}
use Rattle.std.proofs.Common.{false, ℤ, pos, negsuc, ◌+ℤ◌, ◌≤ℤ◌, unsigned_abs, List, [], ◌∷◌, ◌++◌, length, get_or}
use Rattle.std.proofs.Common.{drop, Option, None, if◌then◌else◌, refl, sym, ap, subst, ◌∙◌, arith, length-set}
use Rattle.std.proofs.Common.{get_or-set_same, get_or-set_other}
use Rattle.std.proofs.Math.ListN.{set}
use Rattle.std.proofs.Math.Seq.{drop-cons}
use Rattle.std.proofs.lemmas.Bool.{cases_eq}
use Rattle.std.proofs.lemmas.Bool.Decides.{nat_tests}
use Rattle.std.proofs.lemmas.Int.{ints}
use Rattle.std.proofs.lemmas.List.{drop_all, set-get_or}
use Rattle.std.proofs.lemmas.List.Elements.{All-cons, All-nil}
use Rattle.vms_calls.specs.Common.{Diffs, CpuId, AreBytes, Shape, IsLayout, IsCounter, IsCpu, IsGroup, cell}
use Rattle.vms_calls.specs.Common.{first_of_group, group_of, item_of, sum_below, LeadsOn, State, Facts, Step, Take}
use Rattle.vms_calls.specs.Common.{HasShape, TellsGroup, diff_at, value_at, with_group_zeroed, with_value, group_steps}
use Rattle.vms_calls.specs.Common.{to_place, in_turn}
use Rattle.vms_base.proofs.Common.{group_count-whole}
use Rattle.vms_history.proofs.Common.{get_or-set, sum_below-most, sum_below-size, sum_below-same, LeadsOn-append}
use Rattle.vms_core.proofs.Common.{HasShape-effect, diff_at-effect}
use Rattle.vms_plain_pages.specs.Common.{AreSums, FoldsGroups, IsOutside, part_of_item, sum_at, pages_by_state}

-- an addition of 0 leaves a global value
pub with_value-nothing : (s : State) (k : ℕ) (z : ℤ) → z ≡ pos 0 → with_value s k (value_at s k +ℤ z) ≡ s
with_value-nothing s k z none =
    let same : value_at s k +ℤ z ≡ value_at s k = omega (arith, ints) in
    rw (same, set-get_or s.place k (pos 0)) refl

-- and leaves a sum
pub set-nothing : (sums : List ℤ) (i : ℕ) (z : ℤ) → z ≡ pos 0 → set sums i (sum_at sums i +ℤ z) ≡ sums
set-nothing sums i z none =
    let same : sum_at sums i +ℤ z ≡ sum_at sums i = omega (arith, ints) in
    rw (same, set-get_or sums i (pos 0)) refl

-- steps go on after an addition to a global value, of which there is none for 0
to_place-leads : (who : Option CpuId) (k : ℕ) (z : ℤ) (rest : List Step) (s next : State)
    → LeadsOn pages_by_state who rest (with_value s k (value_at s k +ℤ z)) next
    → LeadsOn pages_by_state who (to_place k z ++ rest) s next
to_place-leads who k (pos zero) rest s next leads =
    subst (λ t. LeadsOn pages_by_state who rest t next) (with_value-nothing s k (pos 0) refl) leads
to_place-leads who k (pos (suc n)) rest s next leads = (tt, leads)
to_place-leads who k (negsuc n) rest s next leads = (tt, leads)

module _ (shape : Shape) (j : ℕ) (values : List ℤ) (t : State) (before : List ℤ) where
  -- what entry m adds to item i
  abbrev entry_for : ℕ → ℕ → ℤ
  entry_for i m = if nat_eq (item_of shape (first_of_group j + m)) i then get_or values m (pos 0) else pos 0

  -- the first n entries of the list are added
  pub record AddsEntries (n : ℕ) (now : State) (sums : List ℤ) : Type 0 where
    pub rest : now ≡ record t { place = now.place }
    pub same_length : length now.place ≡ length t.place
    pub added : (m : ℕ) → m < n → value_at now (8 * j + m) ≡ value_at t (8 * j + m) +ℤ get_or values m (pos 0)
    pub others : (l : ℕ) → IsOutside (8 * j) n l → value_at now l ≡ value_at t l
    pub summed : (i : ℕ) → sum_at sums i ≡ sum_at before i +ℤ sum_below (entry_for i) n
    pub leads : (who : Option CpuId) (next : State)
        → LeadsOn pages_by_state who (in_turn to_place (8 * j + n) (drop n values)) now next
        → LeadsOn pages_by_state who (in_turn to_place (8 * j) values) t next

  pub AddsEntries-none : AddsEntries 0 t before
  AddsEntries-none = record {
    rest = refl;
    same_length = refl;
    added = λ m less. absurd (omega arith);
    others = λ l out. refl;
    summed = λ i. omega (arith, ints);
    leads = λ who next leads. let at : 8 * j + 0 ≡ 8 * j = omega arith in
        subst (λ k. LeadsOn pages_by_state who (in_turn to_place k values) t next) at leads;
  }

  -- the sums stay small
  pub AreSums-entries : AreBytes values → (n most : ℕ) (now : State) (sums : List ℤ) → AddsEntries n now sums
      → AreSums most before → AreSums (most + n * 128) sums
  AreSums-entries bytes n most now sums adds small = record {
    each = λ i. let few = sum_below-most (λ m. pos (unsigned_abs (entry_for i m))) n 128
        (λ m less. by (nat_eq (item_of shape (first_of_group j + m)) i) (get_or values m (pos 0)) (byte m)) in
        let was = small.each i in
        omega (arith, ints, adds.summed i, sum_below-size (entry_for i) n, few);
  }
    where
      byte : (m : ℕ) → unsigned_abs (get_or values m (pos 0)) ≤ 128
      byte m = let range = bytes m in omega (arith, ints)

      by : (b : Bool) (z : ℤ) → unsigned_abs z ≤ 128 → pos (unsigned_abs (if b then z else pos 0)) ≤ℤ pos 128
      by true z few = omega (arith, ints)
      by false z few = omega (arith, ints)

  module _ (n : ℕ) (less : n < length values) (inside : 8 * j + n < length t.place) (now : State) (sums : List ℤ)
      (adds : AddsEntries n now sums) (item_in : item_of shape (8 * j + n) < length sums) where
    abbrev z : ℤ
    z = get_or values n (pos 0)

    abbrev more : State
    more = with_value now (8 * j + n) (value_at now (8 * j + n) +ℤ z)

    abbrev more_sums : List ℤ
    more_sums = set sums (item_of shape (8 * j + n)) (sum_at sums (item_of shape (8 * j + n)) +ℤ z)

    here : 8 * j + n < length now.place
    here = omega (arith, adds.same_length)

    more-added : (m : ℕ) → m < n + 1 → value_at more (8 * j + m) ≡ value_at t (8 * j + m) +ℤ get_or values m (pos 0)
    more-added m below = elim (cases_eq m n) [
      | inl last ↦
          let same : value_at more (8 * j + n) ≡ value_at now (8 * j + n) +ℤ z =
          get_or-set_same now.place (8 * j + n) (value_at now (8 * j + n) +ℤ z) (pos 0) here in
          subst (λ q. value_at more (8 * j + q) ≡ value_at t (8 * j + q) +ℤ get_or values q (pos 0)) (sym last)
          (omega (arith, ints, same, adds.others (8 * j + n) (inr (omega arith))))
      | inr other ↦
          get_or-set_other now.place (8 * j + n) (8 * j + m) (value_at now (8 * j + n) +ℤ z) (pos 0) (omega arith)
          ∙ adds.added m (omega arith)
    ]

    more-others : (l : ℕ) → IsOutside (8 * j) (n + 1) l → value_at more l ≡ value_at t l
    more-others l (inl below) =
        get_or-set_other now.place (8 * j + n) l (value_at now (8 * j + n) +ℤ z) (pos 0) (omega arith)
        ∙ adds.others l (inl below)
    more-others l (inr above) =
        get_or-set_other now.place (8 * j + n) l (value_at now (8 * j + n) +ℤ z) (pos 0) (omega arith)
        ∙ adds.others l (inr (omega arith))

    more-sums : (i : ℕ) → sum_at more_sums i ≡ sum_at before i +ℤ sum_below (entry_for i) (n + 1)
    more-sums i =
        let next : n + 1 ≡ suc n = omega arith in
        rw next (get_or-set sums (item_of shape (8 * j + n)) i (sum_at sums (item_of shape (8 * j + n)) +ℤ z) (pos 0)
        item_in ∙ by (nat_eq (item_of shape (8 * j + n)) i) refl)
      where
        by : (b : Bool) → nat_eq (item_of shape (8 * j + n)) i ≡ b
            → (if b then sum_at sums (item_of shape (8 * j + n)) +ℤ z else sum_at sums i)
            ≡ sum_at before i +ℤ ((if b then z else pos 0) +ℤ sum_below (entry_for i) n)
        by true same =
            let is : item_of shape (8 * j + n) ≡ i = grind (arith, nat_tests) in
            omega (arith, ints, adds.summed i, ap (sum_at sums) is)
        by false other = omega (arith, ints, adds.summed i)

    more-leads : (who : Option CpuId) (next : State)
        → LeadsOn pages_by_state who (in_turn to_place (8 * j + (n + 1)) (drop (n + 1) values)) more next
        → LeadsOn pages_by_state who (in_turn to_place (8 * j) values) t next
    more-leads who next leads =
        let at : 8 * j + (n + 1) ≡ suc (8 * j + n) = omega arith in
        let step : n + 1 ≡ suc n = omega arith in
        adds.leads who next
        (subst (λ zs. LeadsOn pages_by_state who (in_turn to_place (8 * j + n) zs) now next)
        (sym (drop-cons values n (pos 0) less))
        (to_place-leads who (8 * j + n) z (in_turn to_place (suc (8 * j + n)) (drop (suc n) values)) now next
        (subst (λ q. LeadsOn pages_by_state who (in_turn to_place q (drop (suc n) values)) more next) at
        (subst (λ q. LeadsOn pages_by_state who (in_turn to_place (8 * j + (n + 1)) (drop q values)) more next) step
        leads))))

    pub AddsEntries-more : AddsEntries (n + 1) more more_sums
    AddsEntries-more = record {
      rest = ap (λ (x : State). record x { place = more.place }) adds.rest;
      same_length = length-set now.place (8 * j + n) (value_at now (8 * j + n) +ℤ z) ∙ adds.same_length;
      added = more-added;
      others = more-others;
      summed = more-sums;
      leads = more-leads;
    }

-- all entries are added
module _ (shape : Shape) (layout : IsLayout shape) (c : CpuId) (j : ℕ) (c_in : IsCpu shape c.number)
    (j_in : IsGroup shape j) (s : State) (shaped : HasShape shape s) (w : Diffs)
    (told : TellsGroup s c.number j w.values) (next : State) (before after : List ℤ)
    (adds : AddsEntries shape j w.values (with_group_zeroed s c.number j) before 8 next after) where
  abbrev t : State
  t = with_group_zeroed s c.number j

  abbrev take : Step
  take = Take c (record { number = j }) w

  abbrev facts : Facts
  facts = record { layout = shape; sizes = []; base = s }

  t-shaped : HasShape shape t
  t-shaped = HasShape-effect shape facts None take s shaped

  next-shaped : HasShape shape next
  next-shaped = subst (HasShape shape) (sym adds.rest) (record {
    place = adds.same_length ∙ t-shaped.place;
    system = t-shaped.system;
    diff = t-shaped.diff;
    threshold = t-shaped.threshold;
    mark = t-shaped.mark;
    cpu = t-shaped.cpu;
    acknowledged = t-shaped.acknowledged;
    threshold_sets = t-shaped.threshold_sets;
    mark_sets = t-shaped.mark_sets;
  })

  diff-next : (d l : ℕ) → IsCounter shape l → diff_at next d l
      ≡ (if nat_eq c.number d && nat_eq j (group_of l) then pos 0 else diff_at s d l)
  diff-next d l l_in =
      ap (λ (x : State). diff_at x d l) adds.rest
      ∙ ap (λ n. get_or t.diff (cell n d l) (pos 0)) adds.same_length
      ∙ diff_at-effect facts [] s 0 shaped None take d l refl (record { cpu = c_in; group = j_in; values = told }) l_in

  values-next : (l : ℕ) → 8 * j ≤ l → l < 8 * j + 8 → value_at next l ≡ value_at s l +ℤ diff_at s c.number l
  values-next l from to =
      let at : 8 * j + (l - 8 * j) ≡ l = omega arith in
      subst (λ q. value_at next q ≡ value_at s q +ℤ diff_at s c.number q) at
      (omega (arith, ints, adds.added (l - 8 * j) (omega arith), told.each (l - 8 * j) (omega arith)))

  zeros-next : (l : ℕ) → IsCounter shape l → 8 * j ≤ l → l < 8 * j + 8 → diff_at next c.number l ≡ pos 0
  zeros-next l l_in from to =
      let group : nat_eq j (group_of l) ≡ true = grind (arith, nat_tests) in
      let cpu : nat_eq c.number c.number ≡ true = grind (arith, nat_tests) in
      diff-next c.number l l_in ∙ rw (group, cpu) refl

  others-next : (d l : ℕ) → IsCpu shape d → IsCounter shape l → (d ≢ c.number) ⊎ IsOutside (8 * j) 8 l
      → diff_at next d l ≡ diff_at s d l
  others-next d l d_in l_in out = diff-next d l l_in ∙ by (nat_eq c.number d) refl (nat_eq j (group_of l)) refl out
    where
      by : (a : Bool) → nat_eq c.number d ≡ a → (b : Bool) → nat_eq j (group_of l) ≡ b
          → (d ≢ c.number) ⊎ IsOutside (8 * j) 8 l → (if a && b then pos 0 else diff_at s d l) ≡ diff_at s d l
      by true same true one (inl other) = absurd (grind (arith, nat_tests))
      by true same true one (inr (inl below)) = absurd (grind (arith, nat_tests))
      by true same true one (inr (inr above)) = absurd (grind (arith, nat_tests))
      by true same false one o = refl
      by false same b one o = refl

  part-next : (i : ℕ) → sum_below (entry_for shape j w.values t before i) 8 ≡ part_of_item shape s c.number i (8 * j) 8
  part-next i = sum_below-same (entry_for shape j w.values t before i)
      (λ m. if nat_eq (item_of shape (8 * j + m)) i then diff_at s c.number (8 * j + m) else pos 0) 8
      (λ m less. ap (λ z. if nat_eq (item_of shape (8 * j + m)) i then z else pos 0) (told.each m less))

  pub FoldsGroups-one : FoldsGroups shape c j 1 s next before after
  FoldsGroups-one = record {
    groups = w ∷ [];
    one_each = refl;
    eight_each = All-cons (λ v. length v.values ≡ 8) w [] told.eight (All-nil (λ v. length v.values ≡ 8));
    leads = λ who. LeadsOn-append pages_by_state who (group_steps c j w) [] s next next (
      told,
      adds.leads who next
          (subst (λ zs. LeadsOn pages_by_state who (in_turn to_place (8 * j + 8) zs) next next)
          (sym (drop_all 8 w.values (omega (arith, told.eight)))) refl),
    ) refl;
    counters = record {
      rest = adds.rest
          ∙ sym (ap (λ (x : State). record s { place = x.place; diff = x.diff; acknowledged = x.acknowledged })
          adds.rest);
      shaped = next-shaped;
      values = values-next;
      other_values = adds.others;
      zeros = λ l from to. zeros-next l (IsCounter-near l from to) from to;
      other_diffs = others-next;
      sums = λ i. omega (arith, ints, adds.summed i, part-next i);
    };
    taken = λ i. omega (arith, ints, adds.summed i);
    acknowledged = ap (λ (x : State). x.acknowledged) adds.rest;
  }
    where
      IsCounter-near : (l : ℕ) → 8 * j ≤ l → l < 8 * j + 8 → IsCounter shape l
      IsCounter-near l from to = omega (arith, group_count-whole shape layout)
