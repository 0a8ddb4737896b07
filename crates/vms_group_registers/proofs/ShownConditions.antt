-- The conditions of steps on a tree of groups, as the registers show them.
use Rattle.std.proofs.Common.{◌≡◌, ◌≢◌, ◌↔◌, ℕ, ◌+◌, ◌<◌, ◌≤◌, Bool, true, false, Some, None, ℤ, pos, unsigned_abs}
use Rattle.std.proofs.Common.{refl, sym, ap, ◌∙◌, arith, if◌then◌else◌, nat_eq, ne_eqb}
use Rattle.std.proofs.lemmas.Bool.{eqb-false}
use Rattle.vms_history.specs.Common.{CpuId, most_volume, own, owner_in}
use Rattle.vms_history.specs.Legal as legal
use Rattle.vms_history.proofs.Common.{base_can_begin}
use Rattle.vms_cells.specs.Cells.{at}
use Rattle.vms_cells.specs.Tallies.{IsEmptyRow}
use Rattle.vms_group_core.specs.declared.states.GroupState.{GroupState}
use Rattle.vms_group_core.specs.Common.{AddsToValue, AddsUp, CarriesNothing, Changes, FindsValue, History, IsGroup}
use Rattle.vms_group_core.specs.Common.{IsLegal, IsTreeCpu, TakesPending, TakesUp, carried, carried_up, groups}
use Rattle.vms_group_core.specs.Common.{parent_of, pending_at, role, spent, up_at, value_at}
use Rattle.vms_group_core.proofs.Common.{HasShape-state_after}
use Rattle.vms_registers.specs.Slots.{StandsIn, owner_of}
use Rattle.vms_registers.proofs.HeldEvents.{held_events-here}
use Rattle.vms_group_registers.specs.declared.facts.BoundedFacts.{BoundedFacts}
use Rattle.vms_group_registers.specs.declared.registers.GroupRegisters.{GroupRegisters}
use Rattle.vms_group_registers.specs.declared.rises.Rise.{Rise}
use Rattle.vms_group_registers.specs.Bounded.{bounded_groups, rising_in, risen}
use Rattle.vms_group_registers.specs.Keeps.{IsKept, KeepsGroups}
use Rattle.vms_group_registers.specs.Rises.{rise_at, times, times_rising}
use Rattle.vms_group_registers.proofs.BoundedHistories.{legal-of, state-same}
use Rattle.vms_group_registers.proofs.RisingTimes.{contains-times, none-empty, times-contains, times-none, times-some}

-- a slot below the number of CPUs is that of a CPU
module _ (cpus slot : ℕ) (slot_in : slot ≤ cpus) where
  pub owner_of-cpu : slot < cpus → owner_of cpus slot ≡ Some (record { number = slot })
  owner_of-cpu below = rw (ne_eqb slot cpus (omega arith)) refl

  cpu-owner_of : (c : CpuId) → owner_of cpus slot ≡ Some c → (slot < cpus) × (c.number ≡ slot)
  cpu-owner_of c owns = by (nat_eq slot cpus) refl owns
    where
      by : (b : Bool) → nat_eq slot cpus ≡ b
          → (if b then None else Some (record { number = slot })) ≡ Some c → (slot < cpus) × (c.number ≡ slot)
      by true same owns = absurd (cc)
      by false other owns =
          let differ = eqb-false slot cpus other in
          let is : record { number = slot } ≡ c = cc in
          (omega arith, sym (ap (λ (d : CpuId). d.number) is))

module _ (facts : BoundedFacts) (h : History) (held : ℕ → ℕ) (slot p : ℕ)
    (stands : StandsIn bounded_groups facts facts.groups.tree.cpus h held slot p) (r : GroupRegisters)
    (keeps : KeepsGroups facts h held r) where
  pub owner-here : owner_in role h p ≡ owner_of facts.groups.tree.cpus slot
  owner-here =
      ap (owner_in role h) (sym stands.here)
      ∙ stands.hold.owner slot (λ none. stands.given (sym stands.here ∙ none))

  pub legal-here : IsLegal facts.groups h
  legal-here = legal-of facts h stands.legal

  pub kept : IsKept facts r
  kept = record {
    base = base_can_begin groups facts.groups h legal-here;
    shaped = rw keeps.state (HasShape-state_after facts.groups h legal-here);
    spent_cells = keeps.spent_cells;
    carried_cells = keeps.carried_cells;
    within = keeps.within;
    room = keeps.room;
  }

  -- the state of the machine with room
  stood : r.state ≡ legal.state_after bounded_groups facts h
  stood = keeps.state ∙ sym (state-same facts h)

  pub carried-here : (g : ℕ) → IsGroup facts.groups.tree g → at r.carried slot g (pos 0) ≡ carried g (own h p)
  carried-here g g_in =
      keeps.carries slot g stands.slot_in g_in
      ∙ ap (carried g) (held_events-here bounded_groups facts facts.groups.tree.cpus h held slot p stands)

  pub rising-here : (g : ℕ) (a : ℤ) → IsGroup facts.groups.tree g
      → times_rising r.rises slot g a ≡ times a (carried_up facts.groups.tree g (own h p))
  rising-here g a g_in =
      keeps.rising slot g a stands.slot_in g_in
      ∙ ap (λ (o : History). times a (carried_up facts.groups.tree g o))
      (held_events-here bounded_groups facts facts.groups.tree.cpus h held slot p stands)

  pub changes : (g : ℕ) (a : ℤ)
      → ((slot < facts.groups.tree.cpus) × IsGroup facts.groups.tree g
      × (at r.spent slot g 0 + unsigned_abs a ≤ most_volume))
      ↔ (Changes facts.groups.tree h p g a × Unit {0})
  changes g a = (
    λ may. (
      record {
        cpu = record { number = slot };
        owns = owner-here ∙ owner_of-cpu facts.groups.tree.cpus slot stands.slot_in may.0;
        group = may.1;
        affordable = omega (arith, keeps.spends slot g may.0 may.1, may.2);
      },
      tt,
    ),
    λ may.
        let is = cpu-owner_of facts.groups.tree.cpus slot stands.slot_in may.0.cpu (sym owner-here ∙ may.0.owns) in
        let before = keeps.spends slot g is.0 may.0.group in
        let same = ap (λ c. spent h c g) is.1 in
        (is.0, may.0.group, omega (arith, may.0.affordable, before, same)),
  )

  pub finds_pending : (c : CpuId) (g : ℕ) (v : ℤ)
      → (IsTreeCpu facts.groups.tree c.number × IsGroup facts.groups.tree g
      × (pending_at facts.groups.tree r.state c.number g ≡ v))
      ↔ (TakesPending facts.groups.tree (legal.state_after bounded_groups facts h) c g v × Unit {0})
  finds_pending c g v =
      let same = ap (λ (s : GroupState). pending_at facts.groups.tree s c.number g) stood in (
        λ may. (record { cpu = may.0; group = may.1; value = sym same ∙ may.2 }, tt),
        λ may. (may.0.cpu, may.0.group, same ∙ may.0.value),
      )

  pub finds_up : (g : ℕ) (v : ℤ) → (IsGroup facts.groups.tree g × (up_at r.state g ≡ v))
      ↔ (TakesUp facts.groups.tree (legal.state_after bounded_groups facts h) g v × Unit {0})
  finds_up g v =
      let same = ap (λ (s : GroupState). up_at s g) stood in (
        λ may. (record { group = may.0; value = sym same ∙ may.1 }, tt),
        λ may. (may.0.group, same ∙ may.0.value),
      )

  pub finds_value : (g : ℕ) (v : ℤ) → (IsGroup facts.groups.tree g × (value_at r.state g ≡ v))
      ↔ (FindsValue facts.groups.tree (legal.state_after bounded_groups facts h) g v × Unit {0})
  finds_value g v =
      let same = ap (λ (s : GroupState). value_at s g) stood in (
        λ may. (record { group = may.0; value = sym same ∙ may.1 }, tt),
        λ may. (may.0.group, same ∙ may.0.value),
      )

  pub adds_value : (g : ℕ) (a : ℤ)
      → (IsGroup facts.groups.tree g × (at r.carried slot g (pos 0) ≡ a) × (a ≢ pos 0)
      × (risen (parent_of facts.groups.tree g) r.rises.count ≤ facts.room))
      ↔ (AddsToValue facts.groups.tree h p g a
      × (risen (parent_of facts.groups.tree g) (rising_in facts.groups.tree h) ≤ facts.room))
  adds_value g a =
      let same = ap (risen (parent_of facts.groups.tree g)) keeps.count in (
        λ may. (
          record { group = may.0; carries = sym (carried-here g may.0) ∙ may.1; some = may.2 },
          omega (arith, same, may.3),
        ),
        λ may. (
          may.0.group,
          carried-here g may.0.group ∙ may.0.carries,
          may.0.some,
          omega (arith, same, may.1),
        ),
      )

  pub adds_up : (g : ℕ) (a : ℤ)
      → (IsGroup facts.groups.tree g × (0 < times_rising r.rises slot g a) × (a ≢ pos 0))
      ↔ (AddsUp facts.groups.tree h p g a × Unit {0})
  adds_up g a = (
    λ may. (
      record {
        group = may.0;
        carries = times-contains a (carried_up facts.groups.tree g (own h p))
            (omega (arith, rising-here g a may.0, may.1));
        some = may.2;
      },
      tt,
    ),
    λ may. (
      may.0.group,
      omega (
        arith,
        rising-here g a may.0.group,
        contains-times a (carried_up facts.groups.tree g (own h p))
            may.0.carries,
      ),
      may.0.some,
    ),
  )

  -- the pass carries nothing if its row of amounts is empty and none of its amounts rises
  pub carries-nothing : IsEmptyRow r.carried slot
      → ((i : ℕ) → i < r.rises.count → (rise_at r.rises i).slot ≢ slot)
      → CarriesNothing facts.groups.tree (own h p)
  carries-nothing empty none g g_in = record {
    value =
        let wide = keeps.carried_cells.wide in
        sym (carried-here g g_in) ∙ empty g (let within = g_in in omega arith);
    up = none-empty (carried_up facts.groups.tree g (own h p)) (λ a.
        sym (rising-here g a g_in)
        ∙ times-none r.rises slot g a (λ i below is. none i below is.0));
  }

  pub nothing-carried : CarriesNothing facts.groups.tree (own h p) → IsEmptyRow r.carried slot
  nothing-carried nothing g below =
      let wide = keeps.carried_cells.wide in
      let g_in : IsGroup facts.groups.tree g = let within = below in omega arith in
      carried-here g g_in ∙ (nothing g g_in).value

  pub nothing-rises : CarriesNothing facts.groups.tree (own h p)
      → (i : ℕ) → i < r.rises.count → (rise_at r.rises i).slot ≢ slot
  nothing-rises nothing i below same =
      let rise : Rise = rise_at r.rises i in
      let g_in = keeps.known i below in
      let some = times-some r.rises slot rise.group rise.amount i below (same, refl, refl) in
      let zero : times_rising r.rises slot rise.group rise.amount ≡ 0 =
      rising-here rise.group rise.amount g_in ∙ ap (times rise.amount) (nothing rise.group g_in).up in
      absurd (omega (arith, some, zero))
