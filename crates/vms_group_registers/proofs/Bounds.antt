-- How large the registers become: the words and amounts of a legal history are small.
use Rattle.std.proofs.Common.{◌≡◌, ◌≢◌, ℕ, ◌+◌, ◌<◌, ◌≤◌, [], length, ℤ, pos, ◌+ℤ◌, unsigned_abs, ap, arith}
use Rattle.std.specs.Prelude.{◌^◌}
use Rattle.std.proofs.lemmas.Int.{ints}
use Rattle.std.proofs.lemmas.List.Elements.{All-contains}
use Rattle.vms_history.specs.Common.{cell, CpuId, most_volume, own}
use Rattle.vms_base.proofs.Common.{cell-lt}
use Rattle.vms_cells.specs.Cells.{at}
use Rattle.vms_group_core.specs.declared.states.GroupState.{GroupState}
use Rattle.vms_group_core.specs.declared.steps.GroupStep.TheVariants.{AddP, TakeP, TakeU, AddV, AddU}
use Rattle.vms_group_core.specs.Common.{History, IsGroup, IsSmall, IsTreeCpu, KeepsLaws, carried_up, group_count}
use Rattle.vms_group_core.specs.Common.{parent_of, pending_at, up_at, value_at}
use Rattle.vms_group_core.proofs.Common.{beginnings-kept}
use Rattle.vms_registers.specs.Slots.{MayWork}
use Rattle.vms_group_registers.specs.declared.facts.BoundedFacts.{BoundedFacts}
use Rattle.vms_group_registers.specs.declared.registers.GroupRegisters.{GroupRegisters}
use Rattle.vms_group_registers.specs.Bounded.{bounded_groups, risen}
use Rattle.vms_group_registers.specs.Keeps.{IsKept, KeepsGroups}
use Rattle.vms_group_registers.specs.Rises.{times_rising}
use Rattle.vms_group_registers.proofs.ShownConditions.{adds_up, adds_value, carried-here, changes, finds_pending}
use Rattle.vms_group_registers.proofs.ShownConditions.{finds_up, legal-here}

-- the pending word of a CPU for a group stands in the list
pub pending-stands : (facts : BoundedFacts) (r : GroupRegisters) (c g : ℕ) → IsKept facts r
    → IsTreeCpu facts.groups.tree c → IsGroup facts.groups.tree g
    → cell (group_count facts.groups.tree) c g < length r.state.pending
pending-stands facts r c g kept c_in g_in =
    rw kept.shaped.pending (cell-lt (group_count facts.groups.tree) facts.groups.tree.cpus c g c_in g_in)

module _ (facts : BoundedFacts) (h : History) (held : ℕ → ℕ) (slot p : ℕ) (r : GroupRegisters)
    (keeps : KeepsGroups facts h held r) where
  -- a change of the own pending word
  module _ (g : ℕ) (a : ℤ) (may : MayWork bounded_groups facts facts.groups.tree.cpus h held slot p (AddP g a)) where
    pub may-change : (slot < facts.groups.tree.cpus) × IsGroup facts.groups.tree g
        × (at r.spent slot g 0 + unsigned_abs a ≤ most_volume)
    may-change = (changes facts h held slot p may.stands r keeps g a).1 may.meets

    pub change-room : unsigned_abs (pending_at facts.groups.tree r.state slot g +ℤ a) ≤ 2 ^ 62
    change-room =
        let laws : KeepsLaws facts.groups h =
        beginnings-kept facts.groups [] h (legal-here facts h held slot p may.stands r keeps) in
        let small = laws.bounds.pending slot g may-change.0 may-change.1 in
        let same = ap (λ (s : GroupState). pending_at facts.groups.tree s slot g) keeps.state in
        let affordable = may-change.2 in
        omega (arith, ints, small, same, affordable)

  -- a take of a CPU's pending word
  module _ (c : CpuId) (g : ℕ) (v : ℤ)
      (may : MayWork bounded_groups facts facts.groups.tree.cpus h held slot p (TakeP c g v)) where
    pub found-pending : IsTreeCpu facts.groups.tree c.number × IsGroup facts.groups.tree g
        × (pending_at facts.groups.tree r.state c.number g ≡ v)
    found-pending = (finds_pending facts h held slot p may.stands r keeps c g v).1 may.meets

    pub take_pending-room : unsigned_abs (v +ℤ at r.carried slot g (pos 0)) ≤ 2 ^ 62
    take_pending-room =
        let laws : KeepsLaws facts.groups h =
        beginnings-kept facts.groups [] h (legal-here facts h held slot p may.stands r keeps) in
        let small = laws.bounds.pending c.number g found-pending.0 found-pending.1 in
        let same = ap (λ (s : GroupState). pending_at facts.groups.tree s c.number g) keeps.state in
        let is = found-pending.2 in
        let here = carried-here facts h held slot p may.stands r keeps g found-pending.1 in
        omega (arith, ints, small, same, is, here, laws.bounds.carried p g found-pending.1)

  -- a take of what is pending from the children
  module _ (g : ℕ) (v : ℤ) (may : MayWork bounded_groups facts facts.groups.tree.cpus h held slot p (TakeU g v)) where
    pub found-up : IsGroup facts.groups.tree g × (up_at r.state g ≡ v)
    found-up = (finds_up facts h held slot p may.stands r keeps g v).1 may.meets

    pub take_up-room : unsigned_abs (v +ℤ at r.carried slot g (pos 0)) ≤ 2 ^ 62
    take_up-room =
        let laws : KeepsLaws facts.groups h =
        beginnings-kept facts.groups [] h (legal-here facts h held slot p may.stands r keeps) in
        let small = laws.bounds.up g found-up.0 in
        let same = ap (λ (s : GroupState). up_at s g) keeps.state in
        let is = found-up.1 in
        let here = carried-here facts h held slot p may.stands r keeps g found-up.0 in
        omega (arith, ints, small, same, is, here, laws.bounds.carried p g found-up.0)

  -- an addition to a value
  module _ (g : ℕ) (a : ℤ) (may : MayWork bounded_groups facts facts.groups.tree.cpus h held slot p (AddV g a)) where
    pub may-add_value : IsGroup facts.groups.tree g × (at r.carried slot g (pos 0) ≡ a) × (a ≢ pos 0)
        × (risen (parent_of facts.groups.tree g) r.rises.count ≤ facts.room)
    may-add_value = (adds_value facts h held slot p may.stands r keeps g a).1 may.meets

    pub value-room : unsigned_abs (value_at r.state g +ℤ a) ≤ 2 ^ 62
    value-room =
        let laws : KeepsLaws facts.groups h =
        beginnings-kept facts.groups [] h (legal-here facts h held slot p may.stands r keeps) in
        let small = laws.bounds.value g may-add_value.0 in
        let same = ap (λ (s : GroupState). value_at s g) keeps.state in
        let is = may-add_value.1 in
        let here = carried-here facts h held slot p may.stands r keeps g may-add_value.0 in
        omega (arith, ints, small, same, is, here, laws.bounds.carried p g may-add_value.0)

  -- an addition to what is pending from the children
  module _ (g : ℕ) (a : ℤ) (may : MayWork bounded_groups facts facts.groups.tree.cpus h held slot p (AddU g a)) where
    pub may-add_up : IsGroup facts.groups.tree g × (0 < times_rising r.rises slot g a) × (a ≢ pos 0)
    may-add_up = (adds_up facts h held slot p may.stands r keeps g a).1 may.meets

    pub up-room : unsigned_abs (up_at r.state g +ℤ a) ≤ 2 ^ 62
    up-room =
        let laws : KeepsLaws facts.groups h =
        beginnings-kept facts.groups [] h (legal-here facts h held slot p may.stands r keeps) in
        let small = laws.bounds.up g may-add_up.0 in
        let same = ap (λ (s : GroupState). up_at s g) keeps.state in
        let amount : IsSmall a =
        All-contains IsSmall (carried_up facts.groups.tree g (own h p)) a (laws.bounds.carried_up p g may-add_up.0)
        may.meets.0.carries in
        omega (arith, ints, small, same, amount)
