-- The amounts of one counter and of its item are written, and none for an amount of 0.
use Rattle.std.proofs.Common.{◌≡◌, ◌<◌, ◌^◌, ◌+ℤ◌, unsigned_abs, ap, ◌∙◌, arith, pos, to_z, of_z, w64, rules}
use Rattle.std.proofs.lemmas.Int.{fits_signed_from_abs, ints, to_z-of_z}
use Rattle.vms_history.specs.Common.{item_of}
use Rattle.vms_page_passes.proofs.AmountSteps.{Carries-both, Carries-zero}
use Rattle.vms_page_passes.proofs.amounts.Amounts.carry.Goals as goal

pub returns-then-amount-eq0 : goal.returns-then-amount-eq0
returns-then-amount-eq0 c =
    let shape = c.args.layout.now in
    let none : c.args.amount ≡ pos 0 = omega (arith, ints) in
    rw none (Carries-zero shape c.args.slot c.requires.slot c.args.self.now c.requires.shaped c.args.counter.number
    (item_of shape c.args.counter.number))

pub returns : goal.returns
returns c =
    let amount = c.args.amount in
    let shape = c.args.layout.now in
    let counter = c.get-carried.result in
    let item = c.get-carried_of_item.result in
    let place : c.item_of-item.result.number ≡ item_of shape c.args.counter.number = c.item_of-item.ensures.value in
    let amount_kept : to_z w64 (of_z w64 amount) ≡ amount = search rules in
    let counter_kept : to_z w64 (of_z w64 counter) ≡ counter = search rules in
    let item_kept : to_z w64 (of_z w64 item) ≡ item = search rules in
    let counter_fits : unsigned_abs (amount +ℤ counter) < 2 ^ 63 =
    rw c.get-carried.ensures c.requires.counter_room in
    let item_fits : unsigned_abs (amount +ℤ item) < 2 ^ 63 =
    rw (c.get-carried_of_item.ensures, place) c.requires.item_room in
    let first = to_z-of_z w64 (amount +ℤ counter) (fits_signed_from_abs w64 (amount +ℤ counter) counter_fits) in
    let second = to_z-of_z w64 (amount +ℤ item) (fits_signed_from_abs w64 (amount +ℤ item) item_fits) in
    rw (c.set.ensures, c.set-2.ensures, ← place, amount_kept, counter_kept, item_kept)
    (Carries-both shape c.args.slot c.requires.slot c.args.self.now c.requires.shaped c.args.counter.number
    c.requires.counter amount _ (first ∙ ap (λ x. amount +ℤ x) c.get-carried.ensures) c.item_of-item.result.number
    c.item_of-item.ensures.bound amount _ (second ∙ ap (λ x. amount +ℤ x) c.get-carried_of_item.ensures))
