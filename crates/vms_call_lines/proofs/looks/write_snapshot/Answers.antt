-- Each CPU is looked at.
use Rattle.std.proofs.Common.{◌≡◌, ℕ, ◌-◌, ◌≤◌, ◌^◌, ◌+ℤ◌, ℤ, FitsSigned, to_z, of_z, w64, unsigned_abs, sym, ap, subst}
use Rattle.std.proofs.Common.{None, ◌∙◌, arith}
use Rattle.std.proofs.lemmas.Int.{ints, to_z-of_z}
use Rattle.vms_plans.specs.Common.{looks_plan}
use Rattle.vms_text.proofs.Common.{Begins-after, OnErr-true}
use Rattle.vms_call_lines.specs.Lines.{BeginsWriting}
use Rattle.vms_call_lines.proofs.LookWays.{looks-next, writes-snapshot}
use Rattle.vms_call_lines.proofs.Writing.{begins-nothing}
use Rattle.vms_call_lines.proofs.looks.write_snapshot.Goals as goal

pub loop-number-init : goal.loop-number-init
loop-number-init c =
    let v = c.in_ok-sum.sum in
    let kept = to_z-of_z w64 v c.in_ok-sum.ensures.fits in
    let whole : c.args.layout.now.cpus ≡ c.args.layout.now.cpus - 0 = omega arith in
    record {
      small = subst (λ (z : ℤ). unsigned_abs z ≤ 2 ^ 61) (sym (kept ∙ c.in_ok-sum.ensures.load.0))
          (c.requires.room.values c.args.counter.number c.requires.counter);
      looks = λ who. subst (λ (n : ℕ). BeginsWriting who (looks_plan c.args.counter 0 c.args.layout.now.cpus
          (to_z w64 (of_z w64 v))) c.args.pages.now c.args.caller c.load_value.new.out.items c.load_value.new.out.items
          (looks_plan c.args.counter 0 n (to_z w64 (of_z w64 v))) c.args.pages.now) whole
          (begins-nothing who c.args.caller (looks_plan c.args.counter 0 c.args.layout.now.cpus (to_z w64 (of_z w64 v)))
          c.args.pages.now c.load_value.new.out.items);
    }

pub loop-number-preserved : goal.loop-number-preserved
loop-number-preserved c =
    let sum = to_z w64 c.loop-number.sum-bits in
    let found = c.in_ok-sum-2.field-0 in
    let look = c.in_ok-sum-2.ensures in
    let found_fits : FitsSigned w64 found = omega (arith, ints, look.bound) in
    let found_kept = to_z-of_z w64 found found_fits in
    let total = sum +ℤ to_z w64 (of_z w64 found) in
    let below : c.loop-number.number ≤ 128 =
    omega (arith, c.loop-number-test.true, c.cpus-number-end.ensures.value, c.cpus-number-end.ensures.is_layout.cpus_most) in
    let total_fits : FitsSigned w64 total = omega (arith, ints, found_kept, look.bound, c.loop-number.invariant.small, below) in
    let total_is : to_z w64 (of_z w64 total) ≡ sum +ℤ found =
    to_z-of_z w64 total total_fits ∙ ap (λ (z : ℤ). sum +ℤ z) found_kept in
    record {
      small = omega (arith, ints, total_is, look.bound, c.loop-number.invariant.small);
      looks = λ who. looks-next who c.args.pages.now c.args.caller c.args.counter _ c.loop-number.number
          c.args.layout.now.cpus sum found _ c.load_value.new.out.items c.loop-number.out.items c.write_look.new.out.items
          (omega (arith, c.loop-number-test.true, c.cpus-number-end.ensures.value)) total_is
          (c.loop-number.invariant.looks who) (look.look who);
    }

pub returns-clause-writes : goal.returns-clause-writes
returns-clause-writes c = λ who.
    writes-snapshot who c.args.pages.now c.args.caller c.args.counter c.args.layout.now c.in_ok-sum.sum _
    (to_z w64 c.loop-number.sum-bits) c.loop-number.number c.clamped.result c.args.out.now.items
    c.load_value.new.out.items c.loop-number.out.items c.in_ok-sum.ensures.load.0 c.in_ok-sum.ensures.load.1
    (to_z-of_z w64 c.in_ok-sum.sum c.in_ok-sum.ensures.fits) (c.loop-number.invariant.looks who)
    (omega (arith, c.loop-number-test.false, c.cpus-number-end.ensures.value)) c.clamped.ensures

pub returns-in_err-sum-2-clause-err : goal.returns-in_err-sum-2-clause-err
returns-in_err-sum-2-clause-err c =
    OnErr-true c.from_residual-in_err-sum-2.result _
    (Begins-after _ _ _ _ c.in_ok-sum.ensures.load.1
    (Begins-after _ _ _ _ (c.loop-number.invariant.looks None).lines c.in_err-sum-2.ensures.err))
