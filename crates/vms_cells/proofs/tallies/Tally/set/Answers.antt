-- The count of a row stays that of its amounts which aren't 0.
use Rattle.std.proofs.Common.{◌≡◌, ap, ◌∙◌, arith, pos, to_z, of_z, w64, rules}
use Rattle.vms_cells.specs.Tallies.{counted}
use Rattle.vms_cells.proofs.Counts.{AreCounted-set, before-least, count-small}
use Rattle.vms_cells.proofs.tallies.Tally.set.Goals as goal

pub overflow_sub-others : goal.overflow_sub-others
overflow_sub-others c =
    let kept : to_z w64 (of_z w64 c.get.result) ≡ c.get.result = search rules in
    before-least c.self.inside.amounts c.self.inside.counts c.self.invariant c.args.row c.args.column
    (rw c.self.view_is c.requires.row) (rw c.self.view_is c.requires.column) c.get.result c.counted-before.result
    c.get-2.result (c.get.ensures (pos 0)) (c.counted-before.ensures.value ∙ ap counted kept) (c.get-2.ensures 0)

pub overflow_add-others : goal.overflow_add-others
overflow_add-others c =
    let kept : to_z w64 (of_z w64 c.get.result) ≡ c.get.result = search rules in
    let small = count-small c.self.inside.amounts c.self.inside.counts c.self.invariant c.args.row c.args.column
    (rw c.self.view_is c.requires.row) (rw c.self.view_is c.requires.column) c.get.result c.counted-before.result
    c.get-2.result (c.get.ensures (pos 0)) (c.counted-before.ensures.value ∙ ap counted kept) (c.get-2.ensures 0) in
    omega (arith, small, c.counted.ensures.most)

pub invariant_of-self : goal.invariant_of-self
invariant_of-self c =
    let kept : to_z w64 (of_z w64 c.get.result) ≡ c.get.result = search rules in
    let amount : to_z w64 (of_z w64 c.args.amount) ≡ c.args.amount = search rules in
    rw (c.set.ensures, c.set-2.ensures, amount)
    (AreCounted-set c.self.inside.amounts c.self.inside.counts c.self.invariant c.args.row c.args.column
    (rw c.self.view_is c.requires.row) (rw c.self.view_is c.requires.column) c.get.result c.counted-before.result
    c.get-2.result (c.get.ensures (pos 0)) (c.counted-before.ensures.value ∙ ap counted kept) (c.get-2.ensures 0)
    c.args.amount c.counted.result (c.counted.ensures.value ∙ ap counted amount))
