-- The addition to the item that is due, and any other step.
use Rattle.std.proofs.Common.{◌≡◌, ℤ, ◌<◌, refl, sym, ◌∙◌, arith}
use Rattle.std.proofs.lemmas.Int.{ints}
use Rattle.vms_calls.specs.Common.{AddS, ItemId, item_count}
use Rattle.vms_cursors.specs.Totals.{total_at}
use Rattle.vms_cursors.proofs.FoldGoes.{item-goes, item-stops}
use Rattle.vms_cursors.proofs.StepReadings.{added_to_item-other, added_to_item-read}
use Rattle.vms_cursors.proofs.fold_positions.after_item.Goals as goal

pub returns-in-Some-clause-goes : goal.returns-in-Some-clause-goes
returns-in-Some-clause-goes c =
    let i = c.some_item-i.result in
    let less : i < item_count c.args.layout.now = omega (arith, c.if-i-items.false, c.items.ensures.value) in
    let same : total_at c.args.taken.totals i ≡ c.in-Some.added = omega (arith, ints, c.if-added-taken.true) in
    item-goes c.args.layout.now c.args.taken c.args.from i c.some_item-i.ensures.same less c.in-Some.added same
    (λ none. c.some_item-i.ensures.some less (same ∙ none)) c.args.step
    (added_to_item-read (record { number = i }) c.args.step c.in-Some.added (sym c.in-Some.ensures))

pub returns-in_default-clause-stops : goal.returns-in_default-clause-stops
returns-in_default-clause-stops c = λ none.
    let i = c.some_item-i.result in
    let item : ItemId = record { number = i } in
    let less : i < item_count c.args.layout.now = omega (arith, c.if-i-items.false, c.items.ensures.value) in
    let z : ℤ = total_at c.args.taken.totals i in
    let differ : c.in-Some.added ≡ z → ⊥ = λ same. absurd (omega (arith, ints, c.if-added-taken.false, same)) in
    item-stops c.args.layout.now c.args.taken c.args.from i c.some_item-i.ensures.same less z refl
    (c.some_item-i.ensures.some less) c.args.step
    (λ same. differ (added-same item c.in-Some.added z
    (added_to_item-read item c.args.step c.in-Some.added (sym c.in-Some.ensures) ∙ sym same)))
  where
    added-same : (i : ItemId) (a b : ℤ) → AddS i a ≡ AddS i b → a ≡ b
    added-same i a b same = cc

pub returns-in_default-2-clause-stops : goal.returns-in_default-2-clause-stops
returns-in_default-2-clause-stops c = λ none.
    let i = c.some_item-i.result in
    let less : i < item_count c.args.layout.now = omega (arith, c.if-i-items.false, c.items.ensures.value) in
    let z : ℤ = total_at c.args.taken.totals i in
    item-stops c.args.layout.now c.args.taken c.args.from i c.some_item-i.ensures.same less z refl
    (c.some_item-i.ensures.some less) c.args.step
    (added_to_item-other (record { number = i }) c.args.step (sym c.in_default.ensures) z)
