-- Each line in turn that asks takes a value of its lane.
use Rattle.std.proofs.Common.{◌+◌, ℤ, FitsSigned, w64, [], ◌∷◌, ◌++◌, take, ap, subst, sym, ◌∙◌, rules, List, ℕ}
use Rattle.std.proofs.lemmas.Int.{to_z-of_z}
use Rattle.vms_group_phase.specs.declared.items.NumberedValue.{NumberedValue}
use Rattle.vms_group_phase.proofs.LaneLines.{line_at, line-there}
use Rattle.vms_group_phase.proofs.OrderedValues.{AreTaken, taken-other, taken-value, value-left}
use Rattle.vms_group_phase.proofs.values.values_in_order.Goals as goal
use Rattle.vms_group_phase.proofs.values.values_in_order.Goals.{in-Value+in_ok-push, in_default}

pub next_value-requires-clause-left : goal.next_value-requires-clause-left
next_value-requires-clause-left c =
    let items = c.args.items.now in
    let n = c.loop-item.item-index in
    value-left c.args.lanes.now items n (line_at items n) c.loop-item.counts c.loop-item.values.items
    c.loop-item-test.true (line-there items n c.loop-item-test.true) c.loop-item.invariant c.in-Value.field-0
    c.in-Value.is c.requires.cpus c.requires.enough

pub loop-item-preserved : goal.loop-item-preserved
loop-item-preserved c =
    let lanes = c.args.lanes.now in
    let items = c.args.items.now in
    let n = c.loop-item.item-index in
    let item = line_at items n in
    let counts = c.loop-item.counts in
    let values = c.loop-item.values.items in
    let below = c.loop-item-test.true in
    let is = line-there items n c.loop-item-test.true in
    elim c.match-item.branch [
      | in-Value+in_ok-push w ↦
          let entry : ℤ → NumberedValue = λ v. record { number = item.number; value = v } in
          let grown = w.next_value.new.counts in
          let fits : FitsSigned w64 w.next_value.result = search rules in
          subst (λ (ns : List ℕ). AreTaken lanes (take (n + 1) items) ns c.match-item.values.items) (sym w.counts-is)
          (subst (λ vs. AreTaken lanes (take (n + 1) items) grown vs.items) (sym w.values-is)
          (taken-value lanes items n item counts values below is c.loop-item.invariant grown w.in-Value.field-0
          w.next_value.result w.push.new.self.items c.requires.cpus w.next_value.ensures.counts
          w.next_value.ensures.value w.in-Value.is
          (w.in_ok-push.ensures.items
          ∙ ap (λ v. values ++ entry v ∷ []) (to_z-of_z w64 w.next_value.result fits))))
      | in_default w ↦
          subst (λ (ns : List ℕ). AreTaken lanes (take (n + 1) items) ns c.match-item.values.items) (sym w.counts-is)
          (subst (λ vs. AreTaken lanes (take (n + 1) items) counts vs.items) (sym w.values-is)
          (taken-other lanes items n item counts values below is c.loop-item.invariant w.in_default.not-Value))
    ]
