-- The totals with one entry more, and with all eight.
use Rattle.std.proofs.Common.{◌≡◌, ◌<◌, ◌≤◌, ◌+◌, ◌*◌, ◌+ℤ◌, ℕ, pos, unsigned_abs, List, length, subst, sym, ap, ◌∙◌}
use Rattle.std.proofs.Common.{arith, length-set, ⊎_elim}
use Rattle.std.specs.Prelude.{slice_index_or, slice_set}
use Rattle.vms_calls.specs.Common.{first_of_group, item_count, item_of, sum_below}
use Rattle.vms_cursors.specs.Totals.{total_at}
use Rattle.vms_cursors.proofs.TakenTotals.{bound-more, entry_for, totals-more}
use Rattle.vms_cursors.proofs.taken.Taken.add.Goals as goal

pub loop-n-preserved : goal.loop-n-preserved
loop-n-preserved c =
    let shape = c.args.layout.now in
    let j = c.args.self.groups in
    let n = c.loop-n.n in
    let values = c.args.list.values in
    let totals = c.loop-n.totals in
    let item = item_of shape (first_of_group j + n) in
    let set : List _ = slice_set totals item (total_at totals item +ℤ slice_index_or values n (pos 0)) in
    let new : c.add_entry.new.totals ≡ set = c.add_entry.ensures
    ∙ ap (λ i. slice_set totals i (total_at totals i +ℤ slice_index_or values n (pos 0))) c.item_of.ensures.value in
    let long : length totals ≡ 32 = sym (length-set totals item _) ∙ sym (ap length new) ∙ c.add_entry.array_long in
    let few : item_count shape ≤ 32 = ⊎_elim (λ eight. omega (arith, eight)) (λ sixteen. omega (arith, sixteen))
    c.item_of.ensures.is_layout.positions in
    let within : item < length totals = omega (arith, long, few, c.item_of.ensures.bound, c.item_of.ensures.value) in
    record {
      value = λ i. subst (λ (zs : List _). total_at zs i
          ≡ total_at c.args.self.totals i +ℤ sum_below (entry_for shape j values i) (n + 1)) (sym new)
          (totals-more shape j values totals c.args.self.totals n within i (c.loop-n.invariant.value i));
      bound = λ i. subst (λ (zs : List _). unsigned_abs (total_at zs i) ≤ 1024 * j + 128 * (n + 1)) (sym new)
          (omega (
            arith,
            bound-more shape j values totals c.args.self.totals n within c.args.list.bytes
                (1024 * j + 128 * n) i (c.loop-n.invariant.bound i),
          ));
    }

pub returns-clause-totals : goal.returns-clause-totals
returns-clause-totals c = λ i.
    let all : c.loop-n.n ≡ 8 = omega (arith, c.loop-n-test.false, c.loop-n.auto.«n-end») in
    subst (λ (m : ℕ). total_at c.loop-n.totals i ≡ total_at c.args.self.totals i
    +ℤ sum_below (entry_for c.args.layout.now c.args.self.groups c.args.list.values i) m) all
    (c.loop-n.invariant.value i)
