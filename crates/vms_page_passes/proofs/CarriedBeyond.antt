-- In a legal history no pass carries anything for a counter or an item past those of the layout.
use Rattle.std.proofs.Common.{◌≡◌, ℕ, ◌+◌, ◌≤◌, get_or, pos, refl, arith, if◌then◌else◌, nat_eq, ne_eqb}
use Rattle.std.proofs.lemmas.Int.{ints}
use Rattle.vms_history.specs.Common.{IsLayout, counter_count, first_of_group, group_of, item_count, item_of, own}
use Rattle.vms_base.proofs.Common.{group_count-whole, item_of-lt}
use Rattle.vms_history.proofs.Common.{base_can_begin, own-keeps, sum_below-zeros}
use Rattle.vms_core.specs.declared.states.State.{State}
use Rattle.vms_core.specs.declared.steps.Facts.{Facts}
use Rattle.vms_core.specs.declared.steps.Step.{Step}
use Rattle.vms_core.specs.declared.steps.Step.TheVariants.{AddG, AddS, Put, Take}
use Rattle.vms_core.specs.Common.{History, IsLegal, Meets, carried, carried_of_item, moved, moved_of_item, pages}
use Rattle.vms_core.specs.Common.{state_after}

module _ (facts : Facts) (h : History) (s : State) (p : ℕ) (layout : IsLayout facts.layout) where
  moved-beyond : (step : Step) (k : ℕ) → Meets facts h s p step → counter_count facts.layout ≤ k → moved k step ≡ pos 0
  moved-beyond (Put l w t delta how) k meets beyond =
      let within = meets.counter in rw (ne_eqb l.number k (omega arith)) refl
  moved-beyond (Take c j w) k meets beyond =
      let within = meets.group in
      let whole = group_count-whole facts.layout layout in
      rw (ne_eqb j.number (group_of k) (omega arith)) refl
  moved-beyond (AddG l a) k meets beyond = let within = meets.counter in rw (ne_eqb l.number k (omega arith)) refl
  moved-beyond _ k meets beyond = refl

  moved_of_item-beyond : (step : Step) (i : ℕ) → Meets facts h s p step → item_count facts.layout ≤ i
      → moved_of_item facts.layout i step ≡ pos 0
  moved_of_item-beyond (Put l w t delta how) i meets beyond =
      let within = item_of-lt facts.layout layout l.number in
      rw (ne_eqb (item_of facts.layout l.number) i (omega arith)) refl
  moved_of_item-beyond (Take c j w) i meets beyond =
      sum_below-zeros
      (λ n. if nat_eq (item_of facts.layout (first_of_group j.number + n)) i then get_or w.values n (pos 0)
      else pos 0) 8
      (λ n n_in.
      let within = item_of-lt facts.layout layout (first_of_group j.number + n) in
      rw (ne_eqb (item_of facts.layout (first_of_group j.number + n)) i (omega arith)) refl)
  moved_of_item-beyond (AddS l a) i meets beyond = let within = meets.item in rw (ne_eqb l.number i (omega arith)) refl
  moved_of_item-beyond _ i meets beyond = refl

module _ (facts : Facts) (h : History) (legal : IsLegal facts h) (p : ℕ) where
  layout : IsLayout facts.layout
  layout = (base_can_begin pages facts h legal).layout

  pub carried-beyond : (k : ℕ) → counter_count facts.layout ≤ k → carried k (own h p) ≡ pos 0
  carried-beyond k beyond =
      own-keeps pages facts (λ mine. carried k mine ≡ pos 0) refl
      (λ e before all none.
      omega (
        arith,
        ints,
        moved-beyond facts before (state_after facts before) e.caller layout e.step k all.2 beyond,
        none,
      ))
      h legal p

  pub carried_of_item-beyond : (i : ℕ) → item_count facts.layout ≤ i → carried_of_item facts.layout i (own h p) ≡ pos 0
  carried_of_item-beyond i beyond =
      own-keeps pages facts (λ mine. carried_of_item facts.layout i mine ≡ pos 0) refl
      (λ e before all none.
      omega (
        arith,
        ints,
        moved_of_item-beyond facts before (state_after facts before) e.caller layout e.step i all.2 beyond,
        none,
      ))
      h legal p
