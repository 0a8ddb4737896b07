-- What leaves the differentials, by counter, by CPU and by item, and what of it callers may carry.
use Rattle.std.proofs.Common.{◌≡◌, ℕ, ◌+◌, ◌*◌, ◌/◌, ◌%◌, ◌<◌, ◌≤◌, ◌&&◌, Bool, true, false, ◌∷◌, Option, Some, None}
use Rattle.std.proofs.Common.{get_or, ℤ, pos, neg_ℤ, ◌+ℤ◌, unsigned_abs, refl, sym, ap, ◌∙◌, arith, if◌then◌else◌}
use Rattle.std.proofs.Common.{nat_eq, eqb-true}
use Rattle.std.proofs.lemmas.Int.{ints}
use Rattle.vms_history.specs.Common.{Diffs, CounterId, CpuId, GroupId, Shape, IsCounter, group_of, first_of_group}
use Rattle.vms_history.specs.Common.{item_of, counter_count, own, total, owner_in, sum_below, count_below}
use Rattle.vms_history.specs.declared.events.Event.{Event}
use Rattle.vms_history.proofs.Common.{total-by_parts, if-map, if-either, sum_below-same, sum_below-zeros}
use Rattle.vms_history.proofs.Common.{sum_below-only, sum_below-sizes, pos-count_below}
use Rattle.vms_core.specs.declared.states.State.{State}
use Rattle.vms_core.specs.declared.steps.Facts.{Facts}
use Rattle.vms_core.specs.declared.steps.Step.{Step}
use Rattle.vms_core.specs.declared.steps.Step.TheVariants.{Put, Take, AddG, AddS}
use Rattle.vms_core.specs.Common.{moved_out_by, moved_out, HasShape, entry, carried_by, Meets, moved, moved_of_item}
use Rattle.vms_core.specs.Common.{carried, carried_of_item, pages, History, IsLegal, state_after, role}
use Rattle.vms_core.proofs.Bounds.{within-if}
use Rattle.vms_core.proofs.Carrying.{sizes}
use Rattle.vms_core.proofs.Effects.{owned}
use Rattle.vms_core.proofs.Items.{one_change, group_change, if-sum}
use Rattle.vms_core.proofs.Shapes.{HasShape-state_after}

-- the size of what a step moves out of the differentials of counter k, and of what it adds to its global value
abbrev pub size_out : ℕ → Step → ℕ
size_out k (Put l w t delta how) =
    if nat_eq l.number k then unsigned_abs (carried_by how t (entry w.values l.number) delta) else 0
size_out k (Take c j w) = if nat_eq j.number (group_of k) then unsigned_abs (entry w.values k) else 0
size_out k _ = 0

abbrev pub size_added : ℕ → Step → ℕ
size_added k (AddG l a) = if nat_eq l.number k then unsigned_abs a else 0
size_added k _ = 0

-- the same for an item
abbrev pub size_out_of_item : Shape → ℕ → Step → ℕ
size_out_of_item shape i (Put l w t delta how) =
    if nat_eq (item_of shape l.number) i then unsigned_abs (carried_by how t (entry w.values l.number) delta) else 0
size_out_of_item shape i (Take c j w) =
    count_below (λ n. if nat_eq (item_of shape (first_of_group j.number + n)) i
    then unsigned_abs (get_or w.values n (pos 0)) else 0) 8
size_out_of_item shape i _ = 0

abbrev pub size_added_of_item : ℕ → Step → ℕ
size_added_of_item i (AddS l a) = if nat_eq l.number i then unsigned_abs a else 0
size_added_of_item i _ = 0

moved-size : (b : Bool) (z carrying : ℤ) → 0 + unsigned_abs ((if b then z else pos 0) +ℤ carrying)
    ≤ unsigned_abs carrying + (if b then unsigned_abs z else 0)
moved-size true z carrying = omega (arith, ints)
moved-size false z carrying = omega (arith, ints)

added-size : (b : Bool) (a carrying : ℤ) → (b ≡ true → carrying ≡ a)
    → (if b then unsigned_abs a else 0) + unsigned_abs ((if b then neg_ℤ a else pos 0) +ℤ carrying)
    ≤ unsigned_abs carrying + 0
added-size true a carrying all = omega (arith, ints, all refl)
added-size false a carrying all = omega (arith, ints)

-- a caller's carried amount takes up no more than what the step moves out, and an addition is of all that is carried
module _ (facts : Facts) (h : History) (s : State) (p : ℕ) where
  kept_by_step : (k : ℕ) (step : Step) → Meets facts h s p step
      → size_added k step + unsigned_abs (moved k step +ℤ carried k (own h p))
      ≤ unsigned_abs (carried k (own h p)) + size_out k step
  kept_by_step k (Put l w t delta how) meets =
      moved-size (nat_eq l.number k) (carried_by how t (entry w.values l.number) delta) (carried k (own h p))
  kept_by_step k (Take c j w) meets = moved-size (nat_eq j.number (group_of k)) (entry w.values k) (carried k (own h p))
  kept_by_step k (AddG l a) meets =
      added-size (nat_eq l.number k) a (carried k (own h p)) (λ here. rw (eqb-true l.number k here) at meets.carries)
  kept_by_step k _ meets = omega (arith, ints)

  kept_by_step_of_item : (i : ℕ) (step : Step) → Meets facts h s p step
      → size_added_of_item i step
      + unsigned_abs (moved_of_item facts.layout i step +ℤ carried_of_item facts.layout i (own h p))
      ≤ unsigned_abs (carried_of_item facts.layout i (own h p)) + size_out_of_item facts.layout i step
  kept_by_step_of_item i (Put l w t delta how) meets =
      moved-size (nat_eq (item_of facts.layout l.number) i) (carried_by how t (entry w.values l.number) delta)
      (carried_of_item facts.layout i (own h p))
  kept_by_step_of_item i (Take c j w) meets =
      let is_in : ℕ → Bool = λ n. nat_eq (item_of facts.layout (first_of_group j.number + n)) i in
      let all = sum_below-sizes (λ n. if is_in n then get_or w.values n (pos 0) else pos 0)
      (λ n. if is_in n then unsigned_abs (get_or w.values n (pos 0)) else 0) 8
      (λ n below. within-if (is_in n) (get_or w.values n (pos 0)) (pos 0)
      (unsigned_abs (get_or w.values n (pos 0))) 0 (omega arith) (omega arith)) in
      omega (arith, ints, all)
  kept_by_step_of_item i (AddS l a) meets =
      added-size (nat_eq l.number i) a (carried_of_item facts.layout i (own h p))
      (λ here. rw (eqb-true l.number i here) at meets.carries)
  kept_by_step_of_item i _ meets = omega (arith, ints)

pub kept_by_event : (facts : Facts) (k : ℕ) (e : Event Step) (h : History) → IsLegal facts (e ∷ h)
    → size_added k e.step + unsigned_abs (moved k e.step +ℤ total (moved k) (own h e.caller))
    ≤ unsigned_abs (total (moved k) (own h e.caller)) + size_out k e.step
kept_by_event facts k e h legal = kept_by_step facts h (state_after facts h) e.caller k e.step legal.2

pub kept_by_event_of_item : (facts : Facts) (i : ℕ) (e : Event Step) (h : History) → IsLegal facts (e ∷ h)
    → size_added_of_item i e.step
    + unsigned_abs (moved_of_item facts.layout i e.step +ℤ total (moved_of_item facts.layout i) (own h e.caller))
    ≤ unsigned_abs (total (moved_of_item facts.layout i) (own h e.caller)) + size_out_of_item facts.layout i e.step
kept_by_event_of_item facts i e h legal = kept_by_step_of_item facts h (state_after facts h) e.caller i e.step legal.2

-- by CPU: what leaves the differentials of a counter leaves that of one CPU
one_cpu : (d n : ℕ) (b : Bool) (v : ℕ) → d < n
    → pos (if b then v else 0) ≡ sum_below (λ c. pos (if nat_eq d c && b then v else 0)) n
one_cpu d n b v d_in = sym (sum_below-only pos 0 v d n b refl d_in)

module _ (facts : Facts) (h : History) (s : State) (p : ℕ) (shaped : HasShape facts.layout s) (k : ℕ) where
  size_out-by_cpu : (who : Option CpuId) (step : Step) → owner_in role h p ≡ who → Meets facts h s p step
      → pos (size_out k step) ≡ sum_below (λ c. pos (moved_out_by who c k step)) facts.layout.cpus
  size_out-by_cpu None (Put l w t delta how) is meets = let owner = meets.owns.owner in absurd cc
  size_out-by_cpu (Some d) (Put l w t delta how) is meets =
      one_cpu d.number facts.layout.cpus (nat_eq l.number k)
      (unsigned_abs (carried_by how t (entry w.values l.number) delta))
      (rw (owned facts h s p shaped d meets.cpu is meets.owns) at meets.owns.within)
  size_out-by_cpu (Some o) (Take d j w) is meets =
      one_cpu d.number facts.layout.cpus (nat_eq j.number (group_of k)) (unsigned_abs (entry w.values k)) meets.cpu
  size_out-by_cpu None (Take d j w) is meets =
      one_cpu d.number facts.layout.cpus (nat_eq j.number (group_of k)) (unsigned_abs (entry w.values k)) meets.cpu
  size_out-by_cpu (Some o) _ is meets = sym (sum_below-zeros (λ c. pos 0) facts.layout.cpus (λ c c_in. refl))
  size_out-by_cpu None _ is meets = sym (sum_below-zeros (λ c. pos 0) facts.layout.cpus (λ c c_in. refl))

pub sizes_out-by_cpu : (facts : Facts) (h : History) (k : ℕ) → IsLegal facts h
    → sizes (size_out k) h ≡ sum_below (λ c. pos (moved_out h c k)) facts.layout.cpus
sizes_out-by_cpu facts h k =
    total-by_parts pages facts (λ step. pos (size_out k step)) (λ g c. pos (moved_out g c k))
    (λ e g c. pos (moved_out_by (owner_in role g e.caller) c k e.step)) facts.layout.cpus
    (λ c c_in. refl) (λ e g c c_in. omega (arith, ints))
    (λ e g legal.
    sym (size_out-by_cpu facts g (state_after facts g) e.caller (HasShape-state_after facts g legal.0) k
    (owner_in role g e.caller) e.step refl legal.2))
    h

-- by counter: what leaves the differentials of an item leaves those of its counters
module _ (facts : Facts) (h : History) (s : State) (p : ℕ) (i : ℕ) where
  abbrev is_in : ℕ → Bool
  is_in k = nat_eq (item_of facts.layout k) i

  abbrev over_item : (ℕ → ℤ) → ℤ
  over_item f = sum_below (λ k. if is_in k then f k else pos 0) (counter_count facts.layout)

  size_out_of_item-put : (l : CounterId) (v : ℕ) → IsCounter facts.layout l.number
      → pos (if is_in l.number then v else 0) ≡ over_item (λ k. pos (if nat_eq l.number k then v else 0))
  size_out_of_item-put l v l_in =
      if-map pos (is_in l.number) v 0 ∙ sym (one_change is_in (counter_count facts.layout) l.number (pos v) l_in)
      ∙ sym (sum_below-same (λ k. if is_in k then pos (if nat_eq l.number k then v else 0) else pos 0)
      (λ k. if is_in k then (if nat_eq l.number k then pos v else pos 0) else pos 0) (counter_count facts.layout)
      (λ k k_in. ap (λ z. if is_in k then z else pos 0) (if-map pos (nat_eq l.number k) v 0)))

  size_out_of_item-take : (c : CpuId) (j : GroupId) (w : Diffs) → j.number < counter_count facts.layout / 8
      → pos (size_out_of_item facts.layout i (Take c j w)) ≡ over_item (λ k. pos (size_out k (Take c j w)))
  size_out_of_item-take c j w j_in =
      let told : ℕ → ℤ = λ n.
      if is_in (first_of_group j.number + n) then pos (unsigned_abs (get_or w.values n (pos 0))) else pos 0 in
      let f : ℕ → ℤ = λ k. pos (unsigned_abs (entry w.values k)) in
      let first = pos-count_below
      (λ n. if is_in (first_of_group j.number + n) then unsigned_abs (get_or w.values n (pos 0)) else 0) 8 in
      let second = sum_below-same
      (λ n. pos (if is_in (first_of_group j.number + n) then unsigned_abs (get_or w.values n (pos 0)) else 0))
      (λ n. if is_in (first_of_group j.number + n) then f (first_of_group j.number + n) else pos 0) 8 (λ n less.
      let at : (8 * j.number + n) % 8 ≡ n = omega arith in
      rw at (if-map pos (is_in (first_of_group j.number + n)) (unsigned_abs (get_or w.values n (pos 0))) 0)) in
      let third = group_change is_in (counter_count facts.layout) j.number f j_in in
      let fourth = sum_below-same (λ k. if is_in k then pos (size_out k (Take c j w)) else pos 0)
      (λ k. if is_in k then (if nat_eq j.number (group_of k) then f k else pos 0) else pos 0)
      (counter_count facts.layout)
      (λ k k_in.
      ap (λ z. if is_in k then z else pos 0)
      (if-map pos (nat_eq j.number (group_of k)) (unsigned_abs (entry w.values k)) 0)) in
      first ∙ second ∙ sym third ∙ sym fourth

  size_out_of_item-by_counter : (step : Step) → Meets facts h s p step
      → pos (size_out_of_item facts.layout i step) ≡ over_item (λ k. pos (size_out k step))
  size_out_of_item-by_counter (Put l w t delta how) meets =
      size_out_of_item-put l (unsigned_abs (carried_by how t (entry w.values l.number) delta)) meets.counter
  size_out_of_item-by_counter (Take c j w) meets = size_out_of_item-take c j w meets.group
  size_out_of_item-by_counter _ meets =
      sym (sum_below-zeros (λ k. if is_in k then pos 0 else pos 0) (counter_count facts.layout)
      (λ k k_in. if-either (is_in k) (pos 0)))

pub sizes_out_of_item-by_counter : (facts : Facts) (h : History) (i : ℕ) → IsLegal facts h
    → sizes (size_out_of_item facts.layout i) h
    ≡ sum_below (λ k. if nat_eq (item_of facts.layout k) i then sizes (size_out k) h else pos 0)
    (counter_count facts.layout)
sizes_out_of_item-by_counter facts h i =
    total-by_parts pages facts (λ step. pos (size_out_of_item facts.layout i step))
    (λ g k. if nat_eq (item_of facts.layout k) i then sizes (size_out k) g else pos 0)
    (λ e g k. if nat_eq (item_of facts.layout k) i then pos (size_out k e.step) else pos 0) (counter_count facts.layout)
    (λ k k_in. if-either (nat_eq (item_of facts.layout k) i) (pos 0))
    (λ e g k k_in. if-sum (nat_eq (item_of facts.layout k) i) (pos (size_out k e.step)) (sizes (size_out k) g))
    (λ e g legal. sym (size_out_of_item-by_counter facts g (state_after facts g) e.caller i e.step legal.2))
    h
