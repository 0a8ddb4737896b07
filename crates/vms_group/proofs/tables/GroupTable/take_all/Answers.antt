-- The goals were that the words so far are taken, and that their sum fits.
use Rattle.std.proofs.Common.{◌+◌, ℤ, ◌+ℤ◌, w64, to_z, of_z, ap, sym, subst, ◌∙◌}
use Rattle.std.proofs.lemmas.Int.{to_z-of_z}
use mir.Val.{SFits}
use Rattle.vms_group_core.specs.declared.steps.GroupFacts.{GroupFacts}
use Rattle.vms_group_core.specs.Common.{IsGroup}
use Rattle.vms_group.specs.Common.{TookFrom}
use Rattle.vms_group.proofs.FlushedGroups.{took-none, took-more, took-small, take-small}
use Rattle.vms_group.proofs.StepWords.{fits-64}
use Rattle.vms_group.proofs.tables.GroupTable.take_all.Goals as goal

pub loop-number-init : goal.loop-number-init
loop-number-init c = took-none c.args.group c.args.worker.now c.is_live.ensures

pub overflow_add-sum : goal.overflow_add-sum
overflow_add-sum c =
    let g = c.args.group in
    let v = c.take_pending-found.result in
    let sum = to_z w64 c.loop-number.sum-bits in
    let new = c.take_pending-found.new.worker in
    let now = c.loop-number.worker in
    let small = take-small new now (record { number = c.loop-number.number }) g v c.take_pending-found.ensures in
    let next = took-more g now c.args.worker.now c.loop-number.number sum c.loop-number.invariant new v
    c.take_pending-found.ensures in
    let group = subst (λ (f : GroupFacts). IsGroup f.tree g) (sym c.requires.table.facts) c.requires.group in
    subst (λ (x : ℤ). SFits w64 (sum +ℤ x)) (sym (to_z-of_z w64 v (fits-64 v small)))
    (fits-64 (sum +ℤ v) (took-small g new c.args.worker.now (c.loop-number.number + 1) (sum +ℤ v) next group
    c.requires.nothing))

pub loop-number-preserved : goal.loop-number-preserved
loop-number-preserved c =
    let g = c.args.group in
    let v = c.take_pending-found.result in
    let sum = to_z w64 c.loop-number.sum-bits in
    let new = c.take_pending-found.new.worker in
    let now = c.loop-number.worker in
    let small = take-small new now (record { number = c.loop-number.number }) g v c.take_pending-found.ensures in
    let next = took-more g now c.args.worker.now c.loop-number.number sum c.loop-number.invariant new v
    c.take_pending-found.ensures in
    let group = subst (λ (f : GroupFacts). IsGroup f.tree g) (sym c.requires.table.facts) c.requires.group in
    let fits = fits-64 (sum +ℤ v) (took-small g new c.args.worker.now (c.loop-number.number + 1) (sum +ℤ v) next group
    c.requires.nothing) in
    subst (TookFrom g new c.args.worker.now (c.loop-number.number + 1))
    (sym (ap (λ (x : ℤ). to_z w64 (of_z w64 (sum +ℤ x))) (to_z-of_z w64 v (fits-64 v small))
    ∙ to_z-of_z w64 (sum +ℤ v) fits)) next
