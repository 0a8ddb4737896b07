-- A CPU more.
use Rattle.std.proofs.Common.{◌≡◌, true, false, get_or, arith, ◌∙◌, sym}
use Rattle.std.proofs.lemmas.Int.{ints}
use Rattle.vms_history.specs.Common.{Online, is_present}
use Rattle.vms_plain_pcpu.proofs.LocalSums.{locals_over-absent, locals_over-present}
use Rattle.vms_plain_pcpu.proofs.summing.locals.Goals as goal
use Rattle.vms_plain_pcpu.proofs.summing.locals.Goals.{then-is_present, else-is_present}

pub loop-number-preserved : goal.loop-number-preserved
loop-number-preserved c =
    let s = c.args.counters.now in
    let j = c.args.counter.number in
    let n = c.loop-number.number in
    let states = c.args.states.now in
    let so_far = c.loop-number.invariant in
    elim c.if-is_present.branch [
      | then-is_present w ↦
          let is : is_present (get_or states n Online) ≡ true = sym c.is_present.ensures ∙ w.if-is_present.true in
          let turn = locals_over-present s j states n Online (omega arith) is in
          let small = c.requires.room.locals n in
          let few = c.requires.room.batch in
          record {
            sum = omega (arith, ints, turn, so_far.sum, w.sum-is, w.local-sum.ensures, small, few);
            bound = omega (arith, ints, so_far.bound, w.sum-is, w.local-sum.ensures, small, few);
          }
      | else-is_present w ↦
          let is : is_present (get_or states n Online) ≡ false = sym c.is_present.ensures ∙ w.if-is_present.false in
          let turn = locals_over-absent s j states n Online (omega arith) is in
          record {
            sum = omega (arith, ints, turn, so_far.sum, w.sum-is);
            bound = omega (arith, ints, so_far.bound, w.sum-is);
          }
    ]
