-- Every number of a legal history but a mark stays below 2^62.
use Rattle.std.proofs.Common.{◌≡◌, ℕ, ◌+◌, ◌*◌, ◌^◌, ◌<◌, ◌≤◌, Bool, true, false, [], ◌∷◌, ℤ, pos, ◌+ℤ◌, ◌≤ℤ◌}
use Rattle.std.proofs.Common.{unsigned_abs, arith, if◌then◌else◌, nat_eq}
use Rattle.std.proofs.lemmas.Int.{ints}
use Rattle.vms_history.specs.Common.{IsCpu, IsCounter, owner_in}
use Rattle.vms_history.proofs.Common.{base_can_begin, sum_below-most}
use Rattle.vms_core.specs.declared.steps.Facts.{Facts}
use Rattle.vms_core.specs.declared.steps.Step.{Step}
use Rattle.vms_core.specs.declared.steps.Step.TheVariants.{AddG, AddS}
use Rattle.vms_core.specs.Common.{IsBase, moved_out, StaysBelow, size_limit, value_at, system_at, diff_at, moved}
use Rattle.vms_core.specs.Common.{moved_of_item, pages, History, IsLegal, state_after, role}
use Rattle.vms_core.proofs.Carrying.{sizes, carried-within, added-within}
use Rattle.vms_core.proofs.Effects.{value_after, value_at-effect, system_after, system_at-effect}
use Rattle.vms_core.proofs.ItemSums.{item-most}
use Rattle.vms_core.proofs.Moves.{volumes-kept, moves-bounded}
use Rattle.vms_core.proofs.Outflow.{size_out, size_added, size_out_of_item, size_added_of_item, kept_by_event}
use Rattle.vms_core.proofs.Outflow.{kept_by_event_of_item, sizes_out-by_cpu, sizes_out_of_item-by_counter}
use Rattle.vms_core.proofs.Shapes.{HasShape-state_after}

-- what may leave one differential, and the differentials of a counter
abbrev most_moved : ℕ
most_moved = 3 * 2 ^ 48 + 375

abbrev most_moved_of_counter : ℕ
most_moved_of_counter = 128 * (3 * 2 ^ 48 + 375)

grows-if : (b : Bool) (value a : ℤ)
    → unsigned_abs (if b then value +ℤ a else value) ≤ unsigned_abs value + (if b then unsigned_abs a else 0)
grows-if true value a = omega (arith, ints)
grows-if false value a = omega arith

value_after-grows : (k : ℕ) (step : Step) (value : ℤ)
    → unsigned_abs (value_after k step value) ≤ unsigned_abs value + size_added k step
value_after-grows k (AddG l a) value = grows-if (nat_eq l.number k) value a
value_after-grows k _ value = omega arith

system_after-grows : (i : ℕ) (step : Step) (value : ℤ)
    → unsigned_abs (system_after i step value) ≤ unsigned_abs value + size_added_of_item i step
system_after-grows i (AddS l a) value = grows-if (nat_eq l.number i) value a
system_after-grows i _ value = omega arith

value_at-grows : (facts : Facts) (h : History) (k : ℕ) → IsLegal facts h
    → pos (unsigned_abs (value_at (state_after facts h) k))
    ≤ℤ (pos (unsigned_abs (value_at facts.base k)) +ℤ sizes (size_added k) h)
value_at-grows facts [] k legal = omega (arith, ints)
value_at-grows facts (e ∷ h) k legal =
    let s = state_after facts h in
    let who = owner_in role h e.caller in
    let after : value_at (state_after facts (e ∷ h)) k ≡ value_after k e.step (value_at s k) =
    value_at-effect facts h s e.caller (HasShape-state_after facts h legal.0) who e.step k legal.2 in
    rw after (omega (arith, ints, value_after-grows k e.step (value_at s k), value_at-grows facts h k legal.0))

system_at-grows : (facts : Facts) (h : History) (i : ℕ) → IsLegal facts h
    → pos (unsigned_abs (system_at (state_after facts h) i))
    ≤ℤ (pos (unsigned_abs (system_at facts.base i)) +ℤ sizes (size_added_of_item i) h)
system_at-grows facts [] i legal = omega (arith, ints)
system_at-grows facts (e ∷ h) i legal =
    let s = state_after facts h in
    let who = owner_in role h e.caller in
    let after : system_at (state_after facts (e ∷ h)) i ≡ system_after i e.step (system_at s i) =
    system_at-effect facts h s e.caller (HasShape-state_after facts h legal.0) who e.step i legal.2 in
    rw after (omega (arith, ints, system_after-grows i e.step (system_at s i), system_at-grows facts h i legal.0))

module _ (facts : Facts) (h : History) (legal : IsLegal facts h) where
  base : IsBase facts
  base = base_can_begin pages facts h legal

  one-moved : (c k : ℕ) → IsCpu facts.layout c → IsCounter facts.layout k → moved_out h c k ≤ most_moved
  one-moved c k c_in k_in =
      let opening = base.opening.diffs c k c_in k_in in
      omega (arith, moves-bounded facts h legal c k c_in k_in, volumes-kept facts h legal c k, opening)

  counter-moved : (k : ℕ) → IsCounter facts.layout k → sizes (size_out k) h ≤ℤ pos most_moved_of_counter
  counter-moved k k_in =
      let all = sum_below-most (λ c. pos (moved_out h c k)) facts.layout.cpus most_moved
      (λ c c_in. let one = one-moved c k c_in k_in in omega (arith, ints, one)) in
      omega (arith, ints, sizes_out-by_cpu facts h k legal, all, base.layout.cpus_most)

  item-moved : (i : ℕ) → sizes (size_out_of_item facts.layout i) h ≤ℤ pos (16 * most_moved_of_counter)
  item-moved i =
      let all = item-most facts.layout base.layout i most_moved_of_counter (λ k. sizes (size_out k) h) counter-moved in
      omega (arith, ints, sizes_out_of_item-by_counter facts h i legal, all)

  diff-below : (c k : ℕ) → IsCpu facts.layout c → IsCounter facts.layout k
      → unsigned_abs (diff_at (state_after facts h) c k) < size_limit
  diff-below c k c_in k_in =
      let opening = base.opening.diffs c k c_in k_in in
      omega (arith, moves-bounded facts h legal c k c_in k_in, volumes-kept facts h legal c k, opening)

  pub magnitudes-bounded : StaysBelow facts h
  magnitudes-bounded = record {
    values = λ k k_in.
        omega (
          arith,
          ints,
          value_at-grows facts h k legal,
          base.opening.values k k_in,
          added-within facts (moved k) (size_out k) (size_added k) (kept_by_event facts k) h legal,
          counter-moved k k_in,
        );
    systems = λ i i_in.
        omega (
          arith,
          ints,
          system_at-grows facts h i legal,
          base.opening.systems i i_in,
          added-within facts (moved_of_item facts.layout i) (size_out_of_item facts.layout i) (size_added_of_item i)
              (kept_by_event_of_item facts i) h legal,
          item-moved i,
        );
    diffs = diff-below;
    carried = λ p k k_in.
        omega (
          arith,
          ints,
          carried-within facts (moved k) (size_out k) (size_added k) (kept_by_event facts k) h legal p,
          counter-moved k k_in,
        );
    carried_of_items = λ p i i_in.
        omega (
          arith,
          ints,
          carried-within facts (moved_of_item facts.layout i) (size_out_of_item facts.layout i) (size_added_of_item i)
              (kept_by_event_of_item facts i) h legal p,
          item-moved i,
        );
  }
