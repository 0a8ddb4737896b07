-- The owner's change is the caller's.
use Rattle.std.proofs.Common.{ℤ, Option, ap, of_z, sym, subst, to_z, w64, ◌∙◌}
use Rattle.std.proofs.lemmas.Int.{to_z-of_z}
use Rattle.vms_calls.specs.Common.{CpuId}
use Rattle.vms_core.specs.ChangedStates.{with_change}
use Rattle.vms_plans.specs.Common.{change_plan}
use Rattle.vms_call_lines.specs.Lines.{WritesWay}
use Rattle.vms_call_lines.proofs.calls.write_own_change.Goals as goal

pub returns-in_ok-write_change-in-Some-clause-ok : goal.returns-in_ok-write_change-in-Some-clause-ok
returns-in_ok-write_change-in-Some-clause-ok c =
    let written = c.in_ok-write_change-in-Some.ensures.ok in
    let shape = c.args.header.now.layout in
    let cpu = c.in-Some.cpu in
    let k = c.args.counter in
    let how = c.args.mode in
    let s = c.args.pages.now in
    let kept = to_z-of_z w64 c.args.delta c.ranges.delta in (
      cpu,
      written.0,
      c.in-Some.is,
      c.change.ensures.after ∙ ap (λ (z : ℤ). with_change shape cpu.number k.number z how s) kept,
      subst (λ (z : ℤ). WritesWay c.args.owner (change_plan shape cpu k z how) s c.args.caller c.args.out.now.items
          c.write_change.new.out.items (tt {0}) written.0) kept
          (subst (λ (who : Option CpuId). WritesWay who (change_plan shape cpu k (to_z w64 (of_z w64 c.args.delta)) how) s
          c.args.caller c.args.out.now.items c.write_change.new.out.items (tt {0}) written.0) (sym c.in-Some.is) written.1),
    )
