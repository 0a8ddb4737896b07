use Rattle.std.proofs.Common.{◌≡◌, length, ap, ◌∙◌, arith, length-drop, ◌-◌}
use Rattle.vms_io.proofs.Written.{Wrote-more}
use Rattle.vms_io.proofs.loops.write_all.Goals as goal

pub loop-rest-preserved : goal.loop-rest-preserved
loop-rest-preserved g c =
    let (wrote, same, untouched) = c.loop-rest.invariant in
    let rest = c.loop-rest.rest.now in (
      Wrote-more _ _ _ _ rest c.in_ok-taken.taken wrote c.in_ok-taken.ensures.some.1 c.in_ok-taken.ensures.bytes,
      c.in_ok-taken.ensures.faults ∙ same,
      λ empty. let long : length rest ≡ length c.args.bytes.now - wrote.done = ap length wrote.left
          ∙ length-drop wrote.done c.args.bytes.now in
          let none : length c.args.bytes.now ≡ 0 = ap length empty in
          absurd (omega (arith, c.in_ok-taken.ensures.some)),
    )
