-- For other crates too: system-wide values, differentials and what is carried add up to the true totals, by item.
use Rattle.std.proofs.Common.{◌≡◌, ℕ, suc, zero, ◌+◌, ◌-◌, ◌*◌, ◌/◌, ◌<◌, ◌≤◌, ◌⊎◌, ◌&&◌, Bool, true, false, [], ◌∷◌}
use Rattle.std.proofs.Common.{Option, Some, None, get_or, length-set, ℤ, pos, ◌+ℤ◌, ◌-ℤ◌, refl, sym, ap, ◌∙◌, arith}
use Rattle.std.proofs.Common.{inl, inr, ⊎_elim, if◌then◌else◌, nat_eq, eq-eqb, eqb-true}
use Rattle.std.proofs.lemmas.Int.{ints}
use Rattle.std.proofs.lemmas.Bool.{ne_eqb}
use Rattle.vms_history.specs.Common.{Diffs, CounterId, CpuId, GroupId, ItemId, Mode, Shape, cell, IsCounter, group_of}
use Rattle.vms_history.specs.Common.{first_of_group, item_of, counter_count, total, owner_in, begun_in, sum_below}
use Rattle.vms_history.proofs.Common.{if-either, if-cancels, sum_below-same, sum_below-sum, sum_below-zeros}
use Rattle.vms_history.proofs.Common.{total-of_callers}
use Rattle.vms_core.specs.declared.states.State.{State}
use Rattle.vms_core.specs.declared.steps.Facts.{Facts}
use Rattle.vms_core.specs.declared.steps.Step.{Step}
use Rattle.vms_core.specs.declared.steps.Step.TheVariants.{Put, AddG, AddS, Take}
use Rattle.vms_core.specs.Common.{HasShape, with_value, value_at, system_at, diff_at, entry, differential_after}
use Rattle.vms_core.specs.Common.{carried_by, Meets, Puts, FindsGroup, moved_of_item, role, effect, differentials}
use Rattle.vms_core.specs.Common.{differentials_of_item, change_of_item, true_total_of_item, History, IsLegal}
use Rattle.vms_core.specs.Common.{state_after, pages, carried_of_item_by_all, KeepsSystemTotals}
use Rattle.vms_core.proofs.ChangeLemmas.{differential_after-carried_by}
use Rattle.vms_core.proofs.Shapes.{HasShape-state_after}
use Rattle.vms_core.proofs.Effects.{owned, group-within, diff_at-effect, system_at-effect}
use Rattle.vms_core.proofs.Sums.{entry-told, differentials-write, put-adds_up, addition-adds_up}

pub sum_below-split : (f : ℕ → ℤ) (m n : ℕ) → sum_below f (m + n) ≡ sum_below f m +ℤ sum_below (λ i. f (m + i)) n
sum_below-split f m zero = let e : m + 0 ≡ m = omega arith in rw e (omega (arith, ints))
sum_below-split f m (suc n) = let e : m + suc n ≡ suc (m + n) = omega arith in
    rw e (omega (arith, ints, sum_below-split f m n))

-- a sum is that of the part outside of which it has zeros
sum_below-part : (f : ℕ → ℤ) (start m n : ℕ) → start + m ≤ n
    → ((k : ℕ) → (k < start) ⊎ (start + m ≤ k) → f k ≡ pos 0) → sum_below f n ≡ sum_below (λ i. f (start + i)) m
sum_below-part f start m n within zeros =
    let rest = n - (start + m) in
    let all : n ≡ (start + m) + rest = omega arith in
    let before = sum_below-zeros f start (λ k less. zeros k (inl less)) in
    let later = sum_below-zeros (λ i. f ((start + m) + i)) rest
    (λ i less. zeros ((start + m) + i) (inr (omega arith))) in
    rw all (omega (arith, ints, sum_below-split f (start + m) rest, sum_below-split f start m, before, later))

pub if-sum : (b : Bool) (x y : ℤ) → (if b then x +ℤ y else pos 0) ≡ (if b then x else pos 0) +ℤ (if b then y else pos 0)
if-sum true x y = refl
if-sum false x y = refl

-- where each counter's differentials change, those of an item change by the sum over its counters
differentials_of_item-change : (shape : Shape) (s s' : State) (i : ℕ) (change : ℕ → ℤ)
    → ((k : ℕ) → IsCounter shape k → differentials shape s' k ≡ differentials shape s k +ℤ change k)
    → differentials_of_item shape s' i ≡ differentials_of_item shape s i
    +ℤ sum_below (λ k. if nat_eq (item_of shape k) i then change k else pos 0) (counter_count shape)
differentials_of_item-change shape s s' i change changed =
    sum_below-same (λ k. if nat_eq (item_of shape k) i then differentials shape s' k else pos 0)
    (λ k. (if nat_eq (item_of shape k) i then differentials shape s k else pos 0) +ℤ
    (if nat_eq (item_of shape k) i then change k else pos 0))
    (counter_count shape)
    (λ k k_in. ap (λ z. if nat_eq (item_of shape k) i then z else pos 0) (changed k k_in)
    ∙ if-sum (nat_eq (item_of shape k) i) (differentials shape s k) (change k))
    ∙ sum_below-sum (λ k. if nat_eq (item_of shape k) i then differentials shape s k else pos 0)
    (λ k. if nat_eq (item_of shape k) i then change k else pos 0) (counter_count shape)

module _ (is_in : ℕ → Bool) (n : ℕ) where
  -- a change of one counter
  pub one_change : (l : ℕ) (v : ℤ) → l < n
      → sum_below (λ k. if is_in k then (if nat_eq l k then v else pos 0) else pos 0) n ≡ (if is_in l then v else pos 0)
  one_change l v l_in =
      let change : ℕ → ℤ = λ k. if is_in k then (if nat_eq l k then v else pos 0) else pos 0 in
      let part = sum_below-part change l 1 n (omega arith) (λ k other.
      let differ : nat_eq l k ≡ false = ne_eqb l k (⊎_elim (λ below e. omega arith) (λ above e. omega arith) other) in
      rw differ (if-either (is_in k) (pos 0))) in
      let here : change (l + 0) ≡ (if is_in l then v else pos 0) =
      (let at : l + 0 ≡ l = omega arith in let same : nat_eq l l ≡ true = eq-eqb l l refl in rw (at, same) refl) in
      omega (arith, ints, part, here)

  -- changes of the counters of one group
  pub group_change : (j : ℕ) (f : ℕ → ℤ) → j < n / 8
      → sum_below (λ k. if is_in k then (if nat_eq j (group_of k) then f k else pos 0) else pos 0) n
      ≡ sum_below (λ i. if is_in (first_of_group j + i) then f (first_of_group j + i) else pos 0) 8
  group_change j f j_in =
      let change : ℕ → ℤ = λ k. if is_in k then (if nat_eq j (group_of k) then f k else pos 0) else pos 0 in
      let part = sum_below-part change (8 * j) 8 n (group-within n j j_in) (λ k other.
      let differ : nat_eq j (k / 8) ≡ false =
      ne_eqb j (k / 8) (⊎_elim (λ below e. omega arith) (λ above e. omega arith) other) in
      rw differ (if-either (is_in k) (pos 0))) in
      part ∙ sum_below-same (λ i. change (8 * j + i)) (λ i. if is_in (8 * j + i) then f (8 * j + i) else pos 0) 8
      (λ i less.
      let same : nat_eq j ((8 * j + i) / 8) ≡ true = eq-eqb j ((8 * j + i) / 8) (omega arith) in rw same refl)

at_one : (l k : ℕ) (f : ℕ → ℤ) → (if nat_eq l k then f k else pos 0) ≡ (if nat_eq l k then f l else pos 0)
at_one l k f = by (nat_eq l k) refl
  where
    by : (b : Bool) → nat_eq l k ≡ b → (if b then f k else pos 0) ≡ (if b then f l else pos 0)
    by true same = ap f (sym (eqb-true l k same))
    by false differ = refl

module _ (facts : Facts) (h : History) (s : State) (p : ℕ) (shaped : HasShape facts.layout s) (i : ℕ) where
  -- what the system-wide value, the differentials and a step add up to in a state after it
  abbrev AddsUp : State → Step → Type 0
  AddsUp after step = (system_at after i +ℤ differentials_of_item facts.layout after i)
      +ℤ moved_of_item facts.layout i step
      ≡ (system_at s i +ℤ differentials_of_item facts.layout s i) +ℤ change_of_item facts.layout i step

  AddsUp-put : (o : CpuId) (l : CounterId) (w : Diffs) (t : ℕ) (delta : ℤ) (how : Mode) → owner_in role h p ≡ Some o
      → Puts facts h s p l w t delta → AddsUp (effect facts (Some o) (Put l w t delta how) s) (Put l w t delta how)
  AddsUp-put o l w t delta how is puts =
      let shape = facts.layout in
      let step : Step = Put l w t delta how in
      let s' = effect facts (Some o) step s in
      let same : puts.cpu ≡ o = owned facts h s p shaped o puts.cpu is puts.owns in
      let found = diff_at s o.number l.number in
      let after = differential_after how t (entry w.values l.number) delta in
      let moving = carried_by how t (entry w.values l.number) delta in
      let told : entry w.values l.number ≡ found =
      rw same at (entry-told s puts.cpu.number (group_of l.number) l.number w.values puts.values refl) in
      let kept : nat_eq (item_of shape l.number) i ≡ true → after +ℤ moving ≡ found +ℤ delta = λ here.
      differential_after-carried_by how t (entry w.values l.number) delta ∙ ap (λ z. z +ℤ delta) told in
      let changed = differentials_of_item-change shape s s' i
      (λ k. if nat_eq l.number k then after -ℤ found else pos 0) (λ k k_in.
      differentials-write shape s s' k o.number (nat_eq l.number k) after (rw same at puts.owns.within)
      (λ c. diff_at-effect facts h s p shaped (Some o) step c k is puts k_in)
      ∙ ap (λ z. differentials shape s k +ℤ z) (at_one l.number k (λ n. after -ℤ diff_at s o.number n))) in
      rw (
        changed,
        one_change (λ k. nat_eq (item_of shape k) i) (counter_count shape) l.number
            (after -ℤ found) puts.counter,
      )
      (put-adds_up (nat_eq (item_of shape l.number) i) (system_at s i) found after moving delta kept
      (differentials_of_item shape s i))

  AddsUp-take : (d : CpuId) (j : GroupId) (w : Diffs) (after : State) → FindsGroup facts s d j w
      → system_at after i ≡ system_at s i
      → ((c k : ℕ) → IsCounter facts.layout k
      → diff_at after c k ≡ (if nat_eq d.number c && nat_eq j.number (group_of k) then pos 0 else diff_at s c k))
      → AddsUp after (Take d j w)
  AddsUp-take d j w after finds system_same write =
      let shape = facts.layout in
      let is_in : ℕ → Bool = λ k. nat_eq (item_of shape k) i in
      let out : ℕ → ℤ = λ k. pos 0 -ℤ diff_at s d.number k in
      let changed = differentials_of_item-change shape s after i
      (λ k. if nat_eq j.number (group_of k) then out k else pos 0) (λ k k_in.
      differentials-write shape s after k d.number (nat_eq j.number (group_of k)) (pos 0) finds.cpu
      (λ c. write c k k_in)) in
      let group = group_change is_in (counter_count shape) j.number out finds.group in
      let first : ℕ → ℤ = λ n.
      if is_in (first_of_group j.number + n) then out (first_of_group j.number + n) else pos 0 in
      let second : ℕ → ℤ = λ n. if is_in (first_of_group j.number + n) then get_or w.values n (pos 0) else pos 0 in
      let none : sum_below (λ n. first n +ℤ second n) 8 ≡ pos 0 =
      sum_below-zeros (λ n. first n +ℤ second n) 8 (λ n less.
      if-cancels (is_in (first_of_group j.number + n)) (diff_at s d.number (first_of_group j.number + n))
      (get_or w.values n (pos 0))
      (λ here. finds.values.each n less)) in
      rw system_same (omega (arith, ints, changed, group, none, sum_below-sum first second 8))

  AddsUp-addition : (l : ItemId) (a : ℤ) (after : State)
      → system_at after i ≡ (if nat_eq l.number i then system_at s i +ℤ a else system_at s i)
      → differentials_of_item facts.layout after i ≡ differentials_of_item facts.layout s i → AddsUp after (AddS l a)
  AddsUp-addition l a after added same =
      rw (added, same) (addition-adds_up (nat_eq l.number i) (system_at s i) a (differentials_of_item facts.layout s i))

  -- the differentials are read by the number of counters, which stays
  differentials_of_item-with_value : (k : ℕ) (v : ℤ)
      → differentials_of_item facts.layout (with_value s k v) i ≡ differentials_of_item facts.layout s i
  differentials_of_item-with_value k v =
      ap (λ n. sum_below (λ l. if nat_eq (item_of facts.layout l) i
      then sum_below (λ c. get_or s.diff (cell n c l) (pos 0)) facts.layout.cpus else pos 0)
      (counter_count facts.layout))
      (length-set s.place k v)

  AddsUp-step : (who : Option CpuId) (step : Step) → owner_in role h p ≡ who → Meets facts h s p step
      → AddsUp (effect facts who step s) step
  AddsUp-step None (Put l w t delta how) is meets = let owner = meets.owns.owner in absurd cc
  AddsUp-step (Some o) (Put l w t delta how) is meets = AddsUp-put o l w t delta how is meets
  AddsUp-step None (Take d j w) is meets =
      AddsUp-take d j w (effect facts None (Take d j w) s) meets refl
      (λ c k. diff_at-effect facts h s p shaped None (Take d j w) c k is meets)
  AddsUp-step (Some o) (Take d j w) is meets =
      AddsUp-take d j w (effect facts (Some o) (Take d j w) s) meets refl
      (λ c k. diff_at-effect facts h s p shaped (Some o) (Take d j w) c k is meets)
  AddsUp-step None (AddS l a) is meets =
      AddsUp-addition l a (effect facts None (AddS l a) s)
      (system_at-effect facts h s p shaped None (AddS l a) i meets) refl
  AddsUp-step (Some o) (AddS l a) is meets =
      AddsUp-addition l a (effect facts (Some o) (AddS l a) s)
      (system_at-effect facts h s p shaped (Some o) (AddS l a) i meets) refl
  AddsUp-step None (AddG l a) is meets =
      ap (λ z. (system_at s i +ℤ z) +ℤ pos 0) (differentials_of_item-with_value l.number (value_at s l.number +ℤ a))
  AddsUp-step (Some o) (AddG l a) is meets =
      ap (λ z. (system_at s i +ℤ z) +ℤ pos 0) (differentials_of_item-with_value l.number (value_at s l.number +ℤ a))
  AddsUp-step None _ is meets = refl
  AddsUp-step (Some o) _ is meets = refl

-- the same over a whole history, whoever made each step
system_at-moved : (facts : Facts) (h : History) (i : ℕ) → IsLegal facts h
    → (system_at (state_after facts h) i +ℤ differentials_of_item facts.layout (state_after facts h) i)
    +ℤ total (moved_of_item facts.layout i) h
    ≡ true_total_of_item facts h i
system_at-moved facts [] i legal = refl
system_at-moved facts (e ∷ h) i legal =
    let s = state_after facts h in
    let who = owner_in role h e.caller in
    let step = AddsUp-step facts h s e.caller (HasShape-state_after facts h legal.0) i who e.step refl legal.2 in
    omega (arith, ints, step, system_at-moved facts h i legal.0)

pub system_totals-kept : (facts : Facts) (h : History) → IsLegal facts h → KeepsSystemTotals facts h
system_totals-kept facts h legal i i_in =
    let all : total (moved_of_item facts.layout i) h ≡ carried_of_item_by_all facts.layout h i =
    total-of_callers pages facts (moved_of_item facts.layout i) h (suc (begun_in role h)) legal (omega arith) in
    rw all at (system_at-moved facts h i legal)
