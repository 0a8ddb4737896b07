-- Groups that a fold takes: each differential is added to a global value and to a sum.
use Rattle.std.proofs.Common.{◌≡◌, ◌≢◌, ℕ, suc, ◌+◌, ◌*◌, ◌%◌, ◌<◌, ◌≤◌, ◌⊎◌, inl, inr, nat_eq, Bool, true, false, ℤ}
use Rattle.std.proofs.Common.{pos, neg_ℤ, ◌+ℤ◌, ◌≤ℤ◌, unsigned_abs, List, [], ◌∷◌, ◌++◌, length, get_or, drop}
use Rattle.std.proofs.Common.{if◌then◌else◌, refl, sym, ap, subst, ◌∙◌, arith, append_assoc, length-append, append-nil}
use Rattle.std.proofs.Common.{eq-eqb, ne_eqb}
use Rattle.std.proofs.Math.ListN.{set}
use Rattle.std.proofs.Math.Seq.{drop-cons}
use Rattle.std.proofs.lemmas.Bool.{cases_eq, cases_lt}
use Rattle.std.proofs.lemmas.Bool.Decides.{nat_tests}
use Rattle.std.proofs.lemmas.Int.{ints}
use Rattle.std.proofs.lemmas.List.{drop_all, set-get_or}
use Rattle.std.proofs.lemmas.List.Elements.{All-append, All-cons, All-nil}
use Rattle.vms_calls.specs.Common.{Diffs, CpuId, AreBytes, Shape, first_of_group, group_of, item_of, sum_below}
use Rattle.vms_calls.specs.Common.{group_steps, taken_of_item, to_place, in_turn, Facts, Step, Take, entry, carried}
use Rattle.vms_calls.specs.Common.{carried_of_item, took, pages}
use Rattle.vms_history.proofs.Common.{get_or-set, sum_below-most, sum_below-size}
use Rattle.vms_seats.specs.Common.{Pass, IsLive, Made, MadeOne}
use Rattle.vms_seats.proofs.Common.{calls-none, calls-both}
use Rattle.vms_count.specs.Common.{mine, sum_at, AreSums, NoneForCounters, KeepsLoads, FoldsGroups}
use Rattle.vms_count.proofs.PassEvents.{carried-next, carried_of_item-next}
use Rattle.vms_count.proofs.FoldEvents.{placed-carried, placed-item, placed-keeps, taken-keeps, taken-now, keeps-same}
use Rattle.vms_count.proofs.FoldEvents.{keeps-both}

pub in_turn-append : {X : Type 0} (steps : ℕ → X → List Step) (n : ℕ) (xs ys : List X)
    → in_turn steps n (xs ++ ys) ≡ in_turn steps n xs ++ in_turn steps (n + length xs) ys
in_turn-append steps n [] ys = ap (λ m. in_turn steps m ys) (omega arith)
in_turn-append steps n (x ∷ xs) ys =
    let at : n + suc (length xs) ≡ suc n + length xs = omega arith in
    ap (λ ks. steps n x ++ ks) (in_turn-append steps (suc n) xs ys
    ∙ ap (λ m. in_turn steps (suc n) xs ++ in_turn steps m ys) (sym at))
    ∙ sym (append_assoc (steps n x) (in_turn steps (suc n) xs) (in_turn steps (n + suc (length xs)) ys))

pub taken_of_item-append : (shape : Shape) (i j : ℕ) (xs ys : List Diffs)
    → taken_of_item shape i j (xs ++ ys) ≡ taken_of_item shape i j xs +ℤ taken_of_item shape i (j + length xs) ys
taken_of_item-append shape i j [] ys =
    ap (λ m. taken_of_item shape i m ys) at ∙ omega (arith, ints)
  where
    at : j ≡ j + 0
    at = omega arith
taken_of_item-append shape i j (w ∷ xs) ys =
    let at : j + suc (length xs) ≡ suc j + length xs = omega arith in
    rw at (omega (arith, ints, taken_of_item-append shape i (suc j) xs ys))

pub AreSums-more : (most more : ℕ) (sums : List ℤ) → most ≤ more → AreSums most sums → AreSums more sums
AreSums-more most more sums up small = record { each = λ i. let few = small.each i in omega arith }

-- an addition of 0 leaves a sum
pub set-nothing : (sums : List ℤ) (i : ℕ) (z : ℤ) → z ≡ pos 0 → set sums i (sum_at sums i +ℤ z) ≡ sums
set-nothing sums i z none =
    let same : sum_at sums i +ℤ z ≡ sum_at sums i = omega (arith, ints) in
    rw (same, set-get_or sums i (pos 0)) refl

module _ (shape : Shape) (j : ℕ) (values : List ℤ) (c : CpuId) (taken : Pass Facts Step) (before : List ℤ) where
  -- what entry m adds to item i
  abbrev entry_for : ℕ → ℕ → ℤ
  entry_for i m = if nat_eq (item_of shape (first_of_group j + m)) i then get_or values m (pos 0) else pos 0

  -- the first n entries of the list are added
  pub record AddsEntries (n : ℕ) (now : Pass Facts Step) (sums : List ℤ) : Type 0 where
    pub done : List ℤ
    pub long : length done ≡ n
    pub parts : done ++ drop n values ≡ values
    pub made : Made pages now taken (in_turn to_place (8 * j) done)
    pub left : (k : ℕ) → group_of k ≡ j → n ≤ k % 8 → carried k (mine now) ≡ entry values k
    pub gone : (k : ℕ) → (group_of k ≢ j) ⊎ (k % 8 < n) → carried k (mine now) ≡ pos 0
    pub items : (i : ℕ) → carried_of_item shape i (mine now) ≡ carried_of_item shape i (mine taken)
    pub summed : (i : ℕ) → sum_at sums i ≡ sum_at before i +ℤ sum_below (entry_for i) n
    pub keeps : KeepsLoads shape c now taken

  -- the sums stay small
  pub AreSums-entries : AreBytes values → (n most : ℕ) (now : Pass Facts Step) (sums : List ℤ)
      → AddsEntries n now sums → AreSums most before → AreSums (most + n * 128) sums
  AreSums-entries bytes n most now sums adds small = record {
    each = λ i. let few = sum_below-most (λ m. pos (unsigned_abs (entry_for i m))) n 128
        (λ m less. by (nat_eq (item_of shape (first_of_group j + m)) i) (get_or values m (pos 0)) (byte m)) in
        let was = small.each i in
        omega (arith, ints, adds.summed i, sum_below-size (entry_for i) n, few);
  }
    where
      byte : (m : ℕ) → unsigned_abs (get_or values m (pos 0)) ≤ 128
      byte m = let range = bytes m in omega (arith, ints)

      by : (b : Bool) (z : ℤ) → unsigned_abs z ≤ 128 → pos (unsigned_abs (if b then z else pos 0)) ≤ℤ pos 128
      by true z few = omega (arith, ints)
      by false z few = omega (arith, ints)

  module _ (n : ℕ) (few : n < 8) (less : n < length values) (now : Pass Facts Step) (sums : List ℤ)
      (adds : AddsEntries n now sums) where
    abbrev z : ℤ
    z = get_or values n (pos 0)

    -- what is carried for the next counter
    pub next-carried : carried (8 * j + n) (mine now) ≡ z
    next-carried =
        let at : (8 * j + n) % 8 ≡ n = omega arith in
        adds.left (8 * j + n) (omega arith) (omega arith) ∙ ap (λ m. get_or values m (pos 0)) at

    module _ (next : Pass Facts Step) (made : Made pages next now (to_place (8 * j + n) z)) (after : List ℤ)
        (item_in : item_of shape (8 * j + n) < length sums)
        (after_is : after ≡ set sums (item_of shape (8 * j + n)) (sum_at sums (item_of shape (8 * j + n)) +ℤ z)) where
      carried-then : (k : ℕ) → carried k (mine next)
          ≡ (if nat_eq (8 * j + n) k then neg_ℤ z else pos 0) +ℤ carried k (mine now)
      carried-then = placed-carried next now (8 * j + n) z made

      other : (k : ℕ) → 8 * j + n ≢ k → carried k (mine next) ≡ carried k (mine now)
      other k differs =
          let apart : nat_eq (8 * j + n) k ≡ false = ne_eqb (8 * j + n) k differs in
          carried-then k ∙ rw apart (omega (arith, ints))

      gone-then : (k : ℕ) → (group_of k ≢ j) ⊎ (k % 8 < n + 1) → carried k (mine next) ≡ pos 0
      gone-then k (inl differs) = other k (λ same. differs (omega arith)) ∙ adds.gone k (inl differs)
      gone-then k (inr below) = elim (cases_eq k (8 * j + n)) [
        | inl here ↦
            let is : nat_eq (8 * j + n) (8 * j + n) ≡ true = eq-eqb (8 * j + n) (8 * j + n) refl in
            subst (λ l. carried l (mine next) ≡ pos 0) (sym here)
            (carried-then (8 * j + n) ∙ rw is (omega (arith, ints, next-carried)))
        | inr apart ↦ other k (λ same. apart (sym same)) ∙ adds.gone k (elim (cases_eq (group_of k) j) [
          | inl same ↦ inr (omega arith)
          | inr differs ↦ inl differs
        ])
      ]

      summed-then : (i : ℕ) → sum_at after i ≡ sum_at before i +ℤ sum_below (entry_for i) (n + 1)
      summed-then i =
          let step : n + 1 ≡ suc n = omega arith in
          ap (λ xs. sum_at xs i) after_is
          ∙ rw step (get_or-set sums (item_of shape (8 * j + n)) i
          (sum_at sums (item_of shape (8 * j + n)) +ℤ z) (pos 0) item_in
          ∙ by (nat_eq (item_of shape (8 * j + n)) i) refl)
        where
          by : (b : Bool) → nat_eq (item_of shape (8 * j + n)) i ≡ b
              → (if b then sum_at sums (item_of shape (8 * j + n)) +ℤ z else sum_at sums i)
              ≡ sum_at before i +ℤ ((if b then z else pos 0) +ℤ sum_below (entry_for i) n)
          by true same =
              let is : item_of shape (8 * j + n) ≡ i = grind (arith, nat_tests) in
              omega (arith, ints, adds.summed i, ap (sum_at sums) is)
          by false other = omega (arith, ints, adds.summed i)

      pub AddsEntries-more : AddsEntries (n + 1) next after
      AddsEntries-more = record {
        done = adds.done ++ z ∷ [];
        long = length-append adds.done (z ∷ []) ∙ omega (arith, adds.long);
        parts = append_assoc adds.done (z ∷ []) (drop (n + 1) values)
            ∙ ap (λ zs. adds.done ++ zs)
            (ap (λ m. z ∷ drop m values) step ∙ sym (drop-cons values n (pos 0) less))
            ∙ adds.parts;
        made = subst (Made pages next taken) (sym split)
            (calls-both pages next now taken (in_turn to_place (8 * j) adds.done) (to_place (8 * j + n) z) made
            adds.made);
        left = λ k same from. other k (λ is. absurd (omega arith)) ∙ adds.left k same (omega arith);
        gone = gone-then;
        items = λ i. placed-item shape next now (8 * j + n) z made i ∙ adds.items i;
        summed = summed-then;
        keeps = keeps-both shape c next now taken (placed-keeps shape c next now (8 * j + n) z made) adds.keeps;
      }
        where
          step : n + 1 ≡ suc n
          step = omega arith

          split : in_turn to_place (8 * j) (adds.done ++ z ∷ []) ≡ in_turn to_place (8 * j) adds.done
              ++ to_place (8 * j + n) z
          split = in_turn-append to_place (8 * j) adds.done (z ∷ [])
              ∙ ap (λ ks. in_turn to_place (8 * j) adds.done ++ ks)
              (append-nil (to_place (8 * j + length adds.done) z)
              ∙ ap (λ m. to_place (8 * j + m) z) adds.long)

-- a group that was taken, and the entries that were added
module _ (shape : Shape) (c : CpuId) (j : ℕ) (w : Diffs) (eight : length w.values ≡ 8) (old : Pass Facts Step)
    (none : NoneForCounters old) (taken : Pass Facts Step)
    (one : MadeOne pages taken old (Take c (record { number = j }) w)) (before : List ℤ) where
  carried-taken : (k : ℕ) → carried k (mine taken)
      ≡ (if nat_eq j (group_of k) then entry w.values k else pos 0) +ℤ carried k (mine old)
  carried-taken = carried-next taken old (Take c (record { number = j }) w) one

  pub AddsEntries-none : IsLive pages taken → AddsEntries shape j w.values c taken before 0 taken before
  AddsEntries-none live = record {
    done = [];
    long = refl;
    parts = refl;
    made = calls-none pages taken live;
    left = λ k same from. let is : nat_eq j (group_of k) ≡ true = eq-eqb j (group_of k) (sym same) in
        carried-taken k ∙ rw is (omega (arith, ints, none k));
    gone = gone-first;
    items = λ i. refl;
    summed = λ i. omega (arith, ints);
    keeps = keeps-same shape c taken;
  }
    where
      gone-first : (k : ℕ) → (group_of k ≢ j) ⊎ (k % 8 < 0) → carried k (mine taken) ≡ pos 0
      gone-first k (inl differs) =
          let apart : nat_eq j (group_of k) ≡ false = ne_eqb j (group_of k) (λ same. differs (sym same)) in
          carried-taken k ∙ rw apart (omega (arith, ints, none k))
      gone-first k (inr below) = absurd (omega arith)

  pub FoldsGroups-one : (now : Pass Facts Step) (after : List ℤ)
      → AddsEntries shape j w.values c taken before 8 now after
      → FoldsGroups shape c j (w ∷ []) now old before after
  FoldsGroups-one now after adds = record {
    eight_each = All-cons (λ v. length v.values ≡ 8) w [] eight (All-nil (λ v. length v.values ≡ 8));
    made = subst (Made pages now old) (sym (append-nil (group_steps c j w)))
        (calls-both pages now taken old (Take c (record { number = j }) w ∷ []) (in_turn to_place (8 * j) w.values)
        (subst (λ zs. Made pages now taken (in_turn to_place (8 * j) zs)) whole adds.made) one.all);
    none = λ k. adds.gone k (inr (omega arith));
    gathers = record {
      items = λ i. omega (
        arith,
        ints,
        adds.items i,
        carried_of_item-next taken old (Take c (record { number = j }) w) one shape i,
      );
      sums = λ i. omega (arith, ints, adds.summed i);
    };
    keeps = keeps-both shape c now taken old adds.keeps (taken-keeps shape c j w taken old one);
    took_each = λ g i from to. let is : j ≡ i = omega arith in
        adds.keeps.takes g i
        (subst (λ n. took c g n (mine taken) ≡ true) is (taken-now shape c j w taken old one g));
  }
    where
      whole : adds.done ≡ w.values
      whole = sym (append-nil adds.done)
          ∙ ap (λ zs. adds.done ++ zs) (sym (drop_all 8 w.values (omega (arith, eight)))) ∙ adds.parts

-- no group yet, and the groups of one part and of the next
module _ (shape : Shape) (c : CpuId) (j : ℕ) where
  pub FoldsGroups-none : (pass : Pass Facts Step) (sums : List ℤ) → IsLive pages pass → NoneForCounters pass
      → FoldsGroups shape c j [] pass pass sums sums
  FoldsGroups-none pass sums live none = record {
    eight_each = All-nil (λ w. length w.values ≡ 8);
    made = calls-none pages pass live;
    none = none;
    gathers = record { items = λ i. omega (arith, ints); sums = λ i. omega (arith, ints) };
    keeps = keeps-same shape c pass;
    took_each = λ g i from to. absurd (omega arith);
  }

  pub FoldsGroups-both : (xs ys : List Diffs) (new mid old : Pass Facts Step) (before between after : List ℤ)
      → FoldsGroups shape c j xs mid old before between
      → FoldsGroups shape c (j + length xs) ys new mid between after
      → FoldsGroups shape c j (xs ++ ys) new old before after
  FoldsGroups-both xs ys new mid old before between after first second = record {
    eight_each = All-append (λ w. length w.values ≡ 8) xs ys first.eight_each second.eight_each;
    made = subst (Made pages new old) (sym (in_turn-append (group_steps c) j xs ys))
        (calls-both pages new mid old (in_turn (group_steps c) j xs)
        (in_turn (group_steps c) (j + length xs) ys) second.made first.made);
    none = second.none;
    gathers = record {
      items = λ i. omega (
        arith,
        ints,
        second.gathers.items i,
        first.gathers.items i,
        taken_of_item-append shape i j xs ys,
      );
      sums = λ i. omega (
        arith,
        ints,
        second.gathers.sums i,
        first.gathers.sums i,
        taken_of_item-append shape i j xs ys,
      );
    };
    keeps = keeps-both shape c new mid old second.keeps first.keeps;
    took_each = λ g i from to. elim (cases_lt i (j + length xs)) [
      | inl within ↦ second.keeps.takes g i (first.took_each g i from within)
      | inr past ↦ second.took_each g i past (omega (arith, length-append xs ys))
    ];
  }
