-- What each kind of step makes of the registers is what the longer history shows.
use Rattle.std.proofs.Common.{◌≡◌, ℕ, ◌+◌, ◌-◌, ◌<◌, ◌≤◌, ◌&&◌, Bool, true, false, List, ◌∷◌, length, Option, Some}
use Rattle.std.proofs.Common.{None, ℤ, pos, neg_ℤ, ◌+ℤ◌, unsigned_abs, refl, sym, ap, ◌∙◌, arith, nat_eq, if◌then◌else◌}
use Rattle.std.proofs.Common.{eqb-true}
use Rattle.std.proofs.Math.ListN.{length-set}
use Rattle.std.proofs.lemmas.Bool.{eqb-false}
use Rattle.std.proofs.lemmas.Int.{ints}
use Rattle.vms_history.specs.Common.{CpuId}
use Rattle.vms_history.proofs.Common.{get_or-set, if-either, if-map}
use Rattle.vms_cells.specs.Cells.{HasCells, at, with_cell}
use Rattle.vms_cells.proofs.WrittenCells.{HasCells-with_cell, at-with_cell}
use Rattle.vms_group_core.specs.declared.states.GroupState.{GroupState}
use Rattle.vms_group_core.specs.declared.steps.GroupStep.{GroupStep}
use Rattle.vms_group_core.specs.declared.steps.GroupStep.TheVariants.{AddP, TakeP, TakeU, AddV, AddU, LoadV}
use Rattle.vms_group_core.specs.declared.trees.Tree.{Tree}
use Rattle.vms_group_core.specs.Common.{History, IsGroup, IsTree, IsTreeCpu, carried, carried_up, carried_up_after}
use Rattle.vms_group_core.specs.Common.{effect, group_count, moved, parent_of, pending_at, spent, spent_by, state_after}
use Rattle.vms_group_core.specs.Common.{up_at, value_at, with_pending, with_up, with_value}
use Rattle.vms_registers.specs.Slots.{StandsIn, held_events, owner_of}
use Rattle.vms_registers.proofs.HeldEvents.{held_events-works}
use Rattle.vms_group_registers.specs.declared.facts.BoundedFacts.{BoundedFacts}
use Rattle.vms_group_registers.specs.declared.registers.GroupRegisters.{GroupRegisters}
use Rattle.vms_group_registers.specs.declared.rises.Rise.{Rise}
use Rattle.vms_group_registers.specs.declared.rises.Rises.{Rises}
use Rattle.vms_group_registers.specs.Bounded.{bounded_groups, rising_after, risen}
use Rattle.vms_group_registers.specs.Keeps.{KeepsGroups}
use Rattle.vms_group_registers.specs.Rises.{IsRise, blank, dropped, rise_at, times, times_rising, with_risen}
use Rattle.vms_group_registers.proofs.RisingTimes.{times-fallen, times-risen}
use Rattle.vms_group_registers.proofs.ShownConditions.{owner-here, owner_of-cpu}

-- a change alone spends
take_pending-spends : (who : Option CpuId) (d : CpuId) (x : ℕ) (v : ℤ) (c g : ℕ) → spent_by who c g (TakeP d x v) ≡ 0
take_pending-spends None d x v c g = refl
take_pending-spends (Some o) d x v c g = refl

take_up-spends : (who : Option CpuId) (x : ℕ) (v : ℤ) (c g : ℕ) → spent_by who c g (TakeU x v) ≡ 0
take_up-spends None x v c g = refl
take_up-spends (Some o) x v c g = refl

add_value-spends : (who : Option CpuId) (x : ℕ) (a : ℤ) (c g : ℕ) → spent_by who c g (AddV x a) ≡ 0
add_value-spends None x a c g = refl
add_value-spends (Some o) x a c g = refl

add_up-spends : (who : Option CpuId) (x : ℕ) (a : ℤ) (c g : ℕ) → spent_by who c g (AddU x a) ≡ 0
add_up-spends None x a c g = refl
add_up-spends (Some o) x a c g = refl

load-spends : (who : Option CpuId) (x : ℕ) (v : ℤ) (c g : ℕ) → spent_by who c g (LoadV x v) ≡ 0
load-spends None x v c g = refl
load-spends (Some o) x v c g = refl

-- a step that moves nothing leaves what is carried
unmoved : (b : Bool) (x : ℤ) → x ≡ (if b then pos 0 +ℤ x else x)
unmoved true x = omega (arith, ints)
unmoved false x = refl

-- what is taken, and what is added, of what the pass in the slot carried
taken : (a b : Bool) (v x y : ℤ) → (a ≡ true → b ≡ true → y ≡ x)
    → (if a && b then v +ℤ y else x) ≡ (if a then (if b then v else pos 0) +ℤ x else x)
taken true true v x y same = rw (same refl refl) refl
taken true false v x y same = omega (arith, ints)
taken false b v x y same = refl

put_down : (a b : Bool) (v x : ℤ) → (a ≡ true → b ≡ true → x ≡ v)
    → (if a && b then pos 0 else x) ≡ (if a then (if b then neg_ℤ v else pos 0) +ℤ x else x)
put_down true true v x all = let is : x ≡ v = all refl refl in omega (arith, ints)
put_down true false v x all = omega (arith, ints)
put_down false b v x all = refl

grown : (a b : Bool) (n x y : ℕ) → (a ≡ true → b ≡ true → y ≡ x)
    → (if a && b then y + n else x) ≡ (if a && b then n else 0) + x
grown true true n x y same = let is : y ≡ x = same refl refl in omega arith
grown true false n x y same = omega arith
grown false b n x y same = omega arith

-- the amounts that rise, where one more does: to a group that is known, within the room
module _ (tree : Tree) (is : IsTree tree) (rises : Rises) (known : (i : ℕ) → i < rises.count
    → IsGroup tree (rise_at rises i).group) (room : ℕ) (fits : length rises.items ≡ room) (slot x : ℕ) (a : ℤ)
    (x_in : IsGroup tree x) where
  risen-room : (w : Option ℕ) → risen w rises.count ≤ room → (y : ℕ) → w ≡ Some y → rises.count < length rises.items
  risen-room None within y is_y = absurd cc
  risen-room (Some z) within y is_y = omega arith

  risen-known : (w : Option ℕ) → ((y : ℕ) → w ≡ Some y → y < x) → risen w rises.count ≤ room
      → (i : ℕ) → i < (with_risen slot w a rises).count → IsGroup tree (rise_at (with_risen slot w a rises) i).group
  risen-known None above within i below = known i below
  risen-known (Some y) above within i below =
      let less : y < x = above y refl in
      let in_items : rises.count < length rises.items = omega arith in
      let item : Rise = record { slot = slot; group = y; amount = a } in
      let found = get_or-set rises.items rises.count i item blank in_items in
      rw found (by (nat_eq rises.count i) refl)
    where
      by : (b : Bool) → nat_eq rises.count i ≡ b
          → (if b then record { slot = slot; group = y; amount = a } else rise_at rises i).group < group_count tree
      by true here = let less : y < x = above y refl in omega arith
      by false other =
          let differs = eqb-false rises.count i other in
          known i (omega (arith, differs))

  risen-count : (w : Option ℕ) → (with_risen slot w a rises).count ≡ risen w rises.count
  risen-count None = refl
  risen-count (Some y) = omega arith

  risen-length : (w : Option ℕ) → length (with_risen slot w a rises).items ≡ room
  risen-length None = fits
  risen-length (Some y) = length-set rises.items rises.count (record { slot = slot; group = y; amount = a }) ∙ fits

-- and where one less does
dropped-known : (tree : Tree) (rises : Rises) (at : ℕ) → at < rises.count → rises.count ≤ length rises.items
    → ((i : ℕ) → i < rises.count → IsGroup tree (rise_at rises i).group)
    → (i : ℕ) → i < (dropped at rises).count → IsGroup tree (rise_at (dropped at rises) i).group
dropped-known tree rises at at_in fits known i below =
    let found = get_or-set rises.items at i (rise_at rises (rises.count - 1)) blank (omega arith) in
    rw found (by (nat_eq at i))
  where
    by : (b : Bool) → (if b then rise_at rises (rises.count - 1) else rise_at rises i).group < group_count tree
    by true = known (rises.count - 1) (omega arith)
    by false = known i (omega arith)

module _ (facts : BoundedFacts) (h : History) (held : ℕ → ℕ) (slot p : ℕ)
    (stands : StandsIn bounded_groups facts facts.groups.tree.cpus h held slot p) (r : GroupRegisters)
    (keeps : KeepsGroups facts h held r) where
  -- what the pass in a slot carries up to a group
  abbrev ups : ℕ → ℕ → List ℤ
  ups s g = carried_up facts.groups.tree g (held_events held h s)

  -- registers that go on as the step says show the longer history
  record GoesOn (step : GroupStep) (next : GroupRegisters) : Type 0 where
    state : next.state ≡ effect facts.groups (owner_of facts.groups.tree.cpus slot) step r.state
    spent_cells : HasCells facts.groups.tree.cpus (group_count facts.groups.tree) next.spent
    spends : (c g : ℕ) → IsTreeCpu facts.groups.tree c → IsGroup facts.groups.tree g → at next.spent c g 0
        ≡ spent_by (owner_of facts.groups.tree.cpus slot) c g step + at r.spent c g 0
    carried_cells : HasCells (facts.groups.tree.cpus + 1) (group_count facts.groups.tree) next.carried
    carries : (s g : ℕ) → IsGroup facts.groups.tree g → at next.carried s g (pos 0)
        ≡ (if nat_eq slot s then moved g step +ℤ at r.carried s g (pos 0) else at r.carried s g (pos 0))
    rising : (s g : ℕ) (a : ℤ) → s ≤ facts.groups.tree.cpus → IsGroup facts.groups.tree g
        → times_rising next.rises s g a
        ≡ (if nat_eq slot s then times a (carried_up_after facts.groups.tree g step (ups s g)) else times a (ups s g))
    known : (i : ℕ) → i < next.rises.count → IsGroup facts.groups.tree (rise_at next.rises i).group
    count : next.rises.count ≡ rising_after facts.groups.tree step r.rises.count
    within : next.rises.count ≤ facts.room
    room : length next.rises.items ≡ facts.room

  KeepsGroups-goes_on : (step : GroupStep) (next : GroupRegisters) → GoesOn step next
      → KeepsGroups facts (record { caller = p; step = step } ∷ h) held next
  KeepsGroups-goes_on step next on = record {
    state =
        on.state
        ∙ ap (effect facts.groups (owner_of facts.groups.tree.cpus slot) step) keeps.state
        ∙ ap (λ (w : Option CpuId). effect facts.groups w step (state_after facts.groups h))
        (sym (owner-here facts h held slot p stands r keeps));
    spent_cells = on.spent_cells;
    spends = λ c g c_in g_in.
        on.spends c g c_in g_in
        ∙ ap (λ n. spent_by (owner_of facts.groups.tree.cpus slot) c g step + n) (keeps.spends c g c_in g_in)
        ∙ ap (λ (w : Option CpuId). spent_by w c g step + spent h c g)
        (sym (owner-here facts h held slot p stands r keeps));
    carried_cells = on.carried_cells;
    carries = λ s g s_in g_in.
        on.carries s g g_in
        ∙ ap (λ (x : ℤ). if nat_eq slot s then moved g step +ℤ x else x) (keeps.carries s g s_in g_in)
        ∙ sym (ap (carried g) (longer s)
        ∙ if-map (carried g) (nat_eq slot s) (record { caller = p; step = step } ∷ held_events held h s)
        (held_events held h s));
    rising = λ s g a s_in g_in.
        let of : History → ℕ = λ o. times a (carried_up facts.groups.tree g o) in
        on.rising s g a s_in g_in
        ∙ sym (ap of (longer s)
        ∙ if-map of (nat_eq slot s) (record { caller = p; step = step } ∷ held_events held h s)
        (held_events held h s));
    known = on.known;
    count = on.count ∙ ap (rising_after facts.groups.tree step) keeps.count;
    within = on.within;
    room = on.room;
  }
    where
      longer : (s : ℕ) → held_events held (record { caller = p; step = step } ∷ h) s
          ≡ (if nat_eq slot s then record { caller = p; step = step } ∷ held_events held h s else held_events held h s)
      longer = held_events-works bounded_groups facts facts.groups.tree.cpus h held slot p stands step

  slot_below : slot < facts.groups.tree.cpus + 1
  slot_below = let within = stands.slot_in in omega arith

  unspent : (step : GroupStep)
      → ((who : Option CpuId) (c g : ℕ) → spent_by who c g step ≡ 0) → (c g : ℕ)
      → at r.spent c g 0 ≡ spent_by (owner_of facts.groups.tree.cpus slot) c g step + at r.spent c g 0
  unspent step none c g =
      let nothing = none (owner_of facts.groups.tree.cpus slot) c g in omega (arith, nothing)

  unrisen : (s g : ℕ) (a : ℤ) → s ≤ facts.groups.tree.cpus → IsGroup facts.groups.tree g
      → times_rising r.rises s g a ≡ (if nat_eq slot s then times a (ups s g) else times a (ups s g))
  unrisen s g a s_in g_in = keeps.rising s g a s_in g_in ∙ sym (if-either (nat_eq slot s) (times a (ups s g)))

  pub load-keeps : (x : ℕ) (v : ℤ) → KeepsGroups facts (record { caller = p; step = LoadV x v } ∷ h) held r
  load-keeps x v = KeepsGroups-goes_on (LoadV x v) r (record {
    state = refl;
    spent_cells = keeps.spent_cells;
    spends = λ c g c_in g_in. unspent (LoadV x v) (λ who. load-spends who x v) c g;
    carried_cells = keeps.carried_cells;
    carries = λ s g g_in. unmoved (nat_eq slot s) (at r.carried s g (pos 0));
    rising = λ s g a s_in g_in. unrisen s g a s_in g_in;
    known = keeps.known;
    count = refl;
    within = keeps.within;
    room = keeps.room;
  })

  pub change-keeps : (x : ℕ) (a : ℤ) → slot < facts.groups.tree.cpus → IsGroup facts.groups.tree x
      → KeepsGroups facts (record { caller = p; step = AddP x a } ∷ h) held (record r {
        state = with_pending facts.groups.tree r.state slot x (pending_at facts.groups.tree r.state slot x +ℤ a);
        spent = with_cell r.spent slot x (at r.spent slot x 0 + unsigned_abs a);
      })
  change-keeps x a below x_in =
      let owns = owner_of-cpu facts.groups.tree.cpus slot stands.slot_in below in
      KeepsGroups-goes_on (AddP x a) (record r {
        state = with_pending facts.groups.tree r.state slot x (pending_at facts.groups.tree r.state slot x +ℤ a);
        spent = with_cell r.spent slot x (at r.spent slot x 0 + unsigned_abs a);
      }) (record {
        state = rw owns refl;
        spent_cells = HasCells-with_cell facts.groups.tree.cpus (group_count facts.groups.tree) r.spent
            keeps.spent_cells slot x below x_in (at r.spent slot x 0 + unsigned_abs a);
        spends = λ c g c_in g_in.
            rw owns
            (at-with_cell facts.groups.tree.cpus (group_count facts.groups.tree) r.spent keeps.spent_cells slot x below
            x_in (at r.spent slot x 0 + unsigned_abs a) c g 0 g_in
            ∙ grown (nat_eq slot c) (nat_eq x g) (unsigned_abs a) (at r.spent c g 0) (at r.spent slot x 0)
            (λ cpus groups.
            ap (λ d. at r.spent d x 0) (eqb-true slot c cpus) ∙ ap (λ y. at r.spent c y 0) (eqb-true x g groups)));
        carried_cells = keeps.carried_cells;
        carries = λ s g g_in. unmoved (nat_eq slot s) (at r.carried s g (pos 0));
        rising = λ s g b s_in g_in. unrisen s g b s_in g_in;
        known = keeps.known;
        count = refl;
        within = keeps.within;
        room = keeps.room;
      })

  -- a take, which the pass carries for the value of a group
  take-keeps : (step : GroupStep) (x : ℕ) (v : ℤ) (state : GroupState) → IsGroup facts.groups.tree x
      → state ≡ effect facts.groups (owner_of facts.groups.tree.cpus slot) step r.state
      → ((who : Option CpuId) (c g : ℕ) → spent_by who c g step ≡ 0)
      → ((g : ℕ) → moved g step ≡ (if nat_eq x g then v else pos 0))
      → ((g : ℕ) (amounts : List ℤ) → carried_up_after facts.groups.tree g step amounts ≡ amounts)
      → ((n : ℕ) → rising_after facts.groups.tree step n ≡ n)
      → KeepsGroups facts (record { caller = p; step = step } ∷ h) held (record r {
        state = state;
        carried = with_cell r.carried slot x (v +ℤ at r.carried slot x (pos 0));
      })
  take-keeps step x v state x_in is none moves ups_stay count_stays =
      KeepsGroups-goes_on step (record r {
        state = state;
        carried = with_cell r.carried slot x (v +ℤ at r.carried slot x (pos 0));
      }) (record {
        state = is;
        spent_cells = keeps.spent_cells;
        spends = λ c g c_in g_in. unspent step none c g;
        carried_cells = HasCells-with_cell (facts.groups.tree.cpus + 1) (group_count facts.groups.tree) r.carried
            keeps.carried_cells slot x slot_below x_in (v +ℤ at r.carried slot x (pos 0));
        carries = λ s g g_in.
            at-with_cell (facts.groups.tree.cpus + 1) (group_count facts.groups.tree) r.carried keeps.carried_cells slot
            x slot_below x_in (v +ℤ at r.carried slot x (pos 0)) s g (pos 0) g_in
            ∙ taken (nat_eq slot s) (nat_eq x g) v (at r.carried s g (pos 0)) (at r.carried slot x (pos 0))
            (λ slots groups.
            ap (λ d. at r.carried d x (pos 0)) (eqb-true slot s slots)
            ∙ ap (λ y. at r.carried s y (pos 0)) (eqb-true x g groups))
            ∙ ap (λ (m : ℤ). if nat_eq slot s then m +ℤ at r.carried s g (pos 0) else at r.carried s g (pos 0))
            (sym (moves g));
        rising = λ s g b s_in g_in.
            unrisen s g b s_in g_in
            ∙ ap (λ (l : List ℤ). if nat_eq slot s then times b l else times b (ups s g)) (sym (ups_stay g (ups s g)));
        known = keeps.known;
        count = sym (count_stays r.rises.count);
        within = keeps.within;
        room = keeps.room;
      })

  pub take_pending-keeps : (c : CpuId) (x : ℕ) (v : ℤ) → IsGroup facts.groups.tree x
      → KeepsGroups facts (record { caller = p; step = TakeP c x v } ∷ h) held (record r {
        state = with_pending facts.groups.tree r.state c.number x (pos 0);
        carried = with_cell r.carried slot x (v +ℤ at r.carried slot x (pos 0));
      })
  take_pending-keeps c x v x_in =
      take-keeps (TakeP c x v) x v (with_pending facts.groups.tree r.state c.number x (pos 0)) x_in refl
      (λ who. take_pending-spends who c x v) (λ g. refl) (λ g amounts. refl) (λ n. refl)

  pub take_up-keeps : (x : ℕ) (v : ℤ) → IsGroup facts.groups.tree x
      → KeepsGroups facts (record { caller = p; step = TakeU x v } ∷ h) held (record r {
        state = with_up r.state x (pos 0);
        carried = with_cell r.carried slot x (v +ℤ at r.carried slot x (pos 0));
      })
  take_up-keeps x v x_in =
      take-keeps (TakeU x v) x v (with_up r.state x (pos 0)) x_in refl
      (λ who. take_up-spends who x v) (λ g. refl) (λ g amounts. refl) (λ n. refl)

  pub add_value-keeps : IsTree facts.groups.tree → (x : ℕ) (a : ℤ) → IsGroup facts.groups.tree x
      → at r.carried slot x (pos 0) ≡ a → risen (parent_of facts.groups.tree x) r.rises.count ≤ facts.room
      → KeepsGroups facts (record { caller = p; step = AddV x a } ∷ h) held (record r {
        state = with_value r.state x (value_at r.state x +ℤ a);
        carried = with_cell r.carried slot x (pos 0);
        rises = with_risen slot (parent_of facts.groups.tree x) a r.rises;
      })
  add_value-keeps is_tree x a x_in all fits =
      let parent : Option ℕ = parent_of facts.groups.tree x in
      KeepsGroups-goes_on (AddV x a) (record r {
        state = with_value r.state x (value_at r.state x +ℤ a);
        carried = with_cell r.carried slot x (pos 0);
        rises = with_risen slot (parent_of facts.groups.tree x) a r.rises;
      }) (record {
        state = refl;
        spent_cells = keeps.spent_cells;
        spends = λ c g c_in g_in. unspent (AddV x a) (λ who. add_value-spends who x a) c g;
        carried_cells = HasCells-with_cell (facts.groups.tree.cpus + 1) (group_count facts.groups.tree) r.carried
            keeps.carried_cells slot x slot_below x_in (pos 0);
        carries = λ s g g_in.
            at-with_cell (facts.groups.tree.cpus + 1) (group_count facts.groups.tree) r.carried keeps.carried_cells slot
            x slot_below x_in (pos 0) s g (pos 0) g_in
            ∙ put_down (nat_eq slot s) (nat_eq x g) a (at r.carried s g (pos 0))
            (λ slots groups.
            sym (ap (λ d. at r.carried d x (pos 0)) (eqb-true slot s slots)
            ∙ ap (λ y. at r.carried s y (pos 0)) (eqb-true x g groups)) ∙ all);
        rising = λ s g b s_in g_in.
            times-risen r.rises slot s g b (ups s g) (keeps.rising s g b s_in g_in) a parent
            (risen-room facts.groups.tree is_tree r.rises keeps.known facts.room keeps.room slot x a x_in parent fits);
        known = risen-known facts.groups.tree is_tree r.rises keeps.known facts.room keeps.room slot x a x_in parent
            (λ y is. is_tree.parents_above x y is) fits;
        count = risen-count facts.groups.tree is_tree r.rises keeps.known facts.room keeps.room slot x a x_in parent;
        within =
            let count = risen-count facts.groups.tree is_tree r.rises keeps.known facts.room keeps.room slot x a x_in
            parent in
            omega (arith, count, fits);
        room = risen-length facts.groups.tree is_tree r.rises keeps.known facts.room keeps.room slot x a x_in parent;
      })

  pub add_up-keeps : (x : ℕ) (a : ℤ) (place : ℕ) → IsGroup facts.groups.tree x → 0 < times_rising r.rises slot x a
      → place < r.rises.count → IsRise slot x a (rise_at r.rises place)
      → KeepsGroups facts (record { caller = p; step = AddU x a } ∷ h) held (record r {
        state = with_up r.state x (up_at r.state x +ℤ a);
        rises = dropped place r.rises;
      })
  add_up-keeps x a place x_in some place_in is =
      let within = keeps.within in
      let room = keeps.room in
      let fits : r.rises.count ≤ length r.rises.items = omega (arith, within, room) in
      KeepsGroups-goes_on (AddU x a) (record r {
        state = with_up r.state x (up_at r.state x +ℤ a);
        rises = dropped place r.rises;
      }) (record {
        state = refl;
        spent_cells = keeps.spent_cells;
        spends = λ c g c_in g_in. unspent (AddU x a) (λ who. add_up-spends who x a) c g;
        carried_cells = keeps.carried_cells;
        carries = λ s g g_in. unmoved (nat_eq slot s) (at r.carried s g (pos 0));
        rising = λ s g b s_in g_in.
            times-fallen r.rises slot s g b (ups s g) (keeps.rising s g b s_in g_in) a x place place_in fits is
            (λ slots groups.
            let here : times_rising r.rises slot x a ≡ times_rising r.rises s g a =
            ap (λ d. times_rising r.rises d x a) (eqb-true slot s slots)
            ∙ ap (λ y. times_rising r.rises s y a) (eqb-true x g groups) in
            omega (arith, some, here, keeps.rising s g a s_in g_in));
        known = dropped-known facts.groups.tree r.rises place place_in fits keeps.known;
        count = refl;
        within = omega (arith, within);
        room = length-set r.rises.items place (rise_at r.rises (r.rises.count - 1)) ∙ room;
      })
