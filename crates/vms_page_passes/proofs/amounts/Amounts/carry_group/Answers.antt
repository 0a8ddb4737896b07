-- Each turn adds one entry, whose counter and item have room for it.
use Rattle.std.proofs.Common.{◌≡◌, ℕ, suc, ◌+◌, ◌<◌, ◌≤◌, pos, unsigned_abs, get_or, refl, to_z, of_z, w64, rules}
use Rattle.std.proofs.Common.{arith, eq-eqb, nat_eq, true}
use Rattle.std.proofs.lemmas.Int.{ints}
use Rattle.vms_history.specs.Common.{AreBytes, IsItem, item_of, first_of_group}
use Rattle.vms_base.proofs.Common.{group_count-most, item_of-lt}
use Rattle.vms_page_passes.proofs.AmountSteps.{Carries-next, Carries-same, first-all, items_first-small}
use Rattle.vms_page_passes.proofs.amounts.Amounts.carry_group.Goals as goal

pub overflow_mul-counter : goal.overflow_mul-counter
overflow_mul-counter c =
    let most = group_count-most c.args.layout.now c.requires.layout in
    let within = c.requires.group in
    record { fits = omega arith }

pub overflow_add-counter : goal.overflow_add-counter
overflow_add-counter c =
    let most = group_count-most c.args.layout.now c.requires.layout in
    let within = c.requires.group in
    record { fits = omega arith }

pub carry-requires-clause-item_room : goal.carry-requires-clause-item_room
carry-requires-clause-item_room c =
    let shape = c.args.layout.now in
    let values = c.args.list.values in
    let n = c.loop-n.n in
    let i = item_of shape (first_of_group c.args.group.number + n) in
    let i_in : IsItem shape i = item_of-lt shape c.requires.layout (first_of_group c.args.group.number + n) in
    let bytes : AreBytes values = c.args.list.bytes in
    let each : (m : ℕ) → unsigned_abs (get_or values m (pos 0)) ≤ 128 =
    λ m. let low = (bytes m).0 in let high = (bytes m).1 in omega (arith, ints) in
    let same : nat_eq c.args.slot c.args.slot ≡ true = eq-eqb c.args.slot c.args.slot refl in
    let value : to_z w64 (of_z w64 (get_or values n (pos 0))) ≡ get_or values n (pos 0) = search rules in
    let here = rw same at (c.loop-n.invariant.by_item c.args.slot i i_in) in
    rw (value, here)
    (omega (
      arith,
      ints,
      each n,
      items_first-small shape c.args.group.number values each n i,
      c.requires.room.by_item i i_in,
    ))

pub loop-n-preserved : goal.loop-n-preserved
loop-n-preserved c =
    let n = c.loop-n.n in
    let values = c.args.list.values in
    let below : n < 8 = omega arith in
    let next : suc n ≡ n + 1 = omega arith in
    let value : to_z w64 (of_z w64 (get_or values n (pos 0))) ≡ get_or values n (pos 0) = search rules in
    let added = rw value at c.carry.ensures in
    rw (← next) (Carries-next c.args.layout.now c.args.group.number values c.args.slot n c.args.self.now c.loop-n.self
    c.carry.new.self below c.loop-n.invariant added)

pub returns : goal.returns
returns c =
    let all : c.loop-n.n ≡ 8 = omega arith in
    Carries-same c.args.layout.now c.args.slot _ _ _ _ (rw all at c.loop-n.invariant) _ _
    (λ k k_in. first-all c.args.layout.now c.args.group.number c.args.list.values k) (λ i i_in. refl)
