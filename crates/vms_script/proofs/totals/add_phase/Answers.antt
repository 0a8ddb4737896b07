use Rattle.std.proofs.Common.{rules, ◌≡◌, ℤ, Option, pos, ◌+ℤ◌, sym, ap, ◌∙◌, subst, w64, FitsSigned, to_z, of_z}
use Rattle.std.proofs.Common.{to_z-of_z}
use Rattle.vms_base.specs.declared.ids.CounterId.{CounterId}
use Rattle.vms_text.specs.declared.acts.Item.{Item}
use Rattle.vms_script.proofs.Changes.{Leads-unchanged, Leads-some, change-fits, act_change-within}
use Rattle.vms_script.specs.Common.{act_change}
use Rattle.vms_script.proofs.totals.add_phase.Goals as goal
use Rattle.vms_script.proofs.totals.add_phase.Goals.{in-Some, in_default}

-- what an item changes, where it stands in a list
here : {item at : Item} {change : Option (CounterId × ℤ)} → item ≡ at → act_change item.act ≡ change
    → act_change at.act ≡ change
here at is = sym (ap (λ (item : Item). act_change item.act) at) ∙ is

pub get-requires : goal.get-requires
get-requires c =
    act_change-within c.loop-item.totals c.args.totals.now c.args.items.now c.loop-item.item-index _
    (c.in-Some.counter, c.in-Some.pages) c.loop-item-test.true (here c.item-item.is (sym c.in-Some.ensures))
    c.loop-item.invariant.each
    c.requires.known

pub overflow_add-get : goal.overflow_add-get
overflow_add-get c =
    let within = act_change-within c.loop-item.totals c.args.totals.now c.args.items.now c.loop-item.item-index _
    (c.in-Some.counter, c.in-Some.pages) c.loop-item-test.true (here c.item-item.is (sym c.in-Some.ensures))
    c.loop-item.invariant.each
    c.requires.known in
    let fits = change-fits _ _ c.args.items.now c.loop-item.item-index _ c.loop-item.totals
    (c.in-Some.counter, c.in-Some.pages) c.loop-item-test.true (here c.item-item.is (sym c.in-Some.ensures)) within
    c.loop-item.invariant in
    let found : to_z w64 (of_z w64 c.get.result) ≡ c.get.result = search rules in
    let pages : to_z w64 (of_z w64 c.in-Some.pages) ≡ c.in-Some.pages = search rules in
    rw (found, pages) (subst (λ n. FitsSigned w64 (n +ℤ c.in-Some.pages)) (c.get.ensures (pos 0)) fits)

pub loop-item-preserved : goal.loop-item-preserved
loop-item-preserved c = elim c.match-change_of.branch [
  | in-Some w ↦
      let within = act_change-within c.loop-item.totals c.args.totals.now c.args.items.now c.loop-item.item-index _
      (w.in-Some.counter, w.in-Some.pages) c.loop-item-test.true (here c.item-item.is (sym w.in-Some.ensures))
      c.loop-item.invariant.each
      c.requires.known in
      let fits = change-fits _ _ c.args.items.now c.loop-item.item-index _ c.loop-item.totals
      (w.in-Some.counter, w.in-Some.pages) c.loop-item-test.true (here c.item-item.is (sym w.in-Some.ensures)) within
      c.loop-item.invariant in
      let found : to_z w64 (of_z w64 w.get.result) ≡ w.get.result = search rules in
      let pages : to_z w64 (of_z w64 w.in-Some.pages) ≡ w.in-Some.pages = search rules in
      let kept = to_z-of_z (subst (λ n. FitsSigned w64 (n +ℤ w.in-Some.pages)) (w.get.ensures (pos 0)) fits) in
      rw (w.totals-is, w.set.ensures, found, pages)
      (Leads-some _ _ c.args.items.now c.loop-item.item-index _ c.loop-item.totals
      (w.in-Some.counter, w.in-Some.pages) _ c.loop-item-test.true (here c.item-item.is (sym w.in-Some.ensures)) within
      (kept ∙ ap (λ n. n +ℤ w.in-Some.pages) (sym (w.get.ensures (pos 0)))) c.loop-item.invariant)
  | in_default w ↦ rw w.totals-is
      (Leads-unchanged _ _ c.args.items.now c.loop-item.item-index _ c.loop-item.totals c.loop-item-test.true
      (here c.item-item.is (sym w.in_default.ensures)) c.loop-item.invariant)
]
