use Rattle.std.proofs.Common.{◌-◌, ◌∙◌, arith, drop, length, length-drop}
use Rattle.std.proofs.lemmas.List.{length-take-le}
use Rattle.vms_gen.specs.Common.{the_view}
use Rattle.vms_gen.proofs.Lefts.{fills-more}
use Rattle.vms_gen.proofs.made_source.MadeSourceSource.read.Goals as goal

pub loop-filled-preserved : goal.loop-filled-preserved
loop-filled-preserved c =
    let buf = c.loop-filled.buf in let filled = c.loop-filled.filled in
    let long = c.give-count.auto.buf
    ∙ length-take-le (length buf - filled) (drop filled buf) (omega (arith, length-drop filled buf)) in
    let more = fills-more buf c.give-count.new.buf c.args.buf.now (the_view c.self.inside).left c.loop-filled.self.left
    c.give-count.new.self.left filled c.give-count.result c.loop-filled.invariant.0 long c.give-count.ensures.room
    c.loop-filled.invariant.1 c.give-count.ensures.bytes c.loop-filled.invariant.2 c.give-count.ensures.after in
    (more.within, more.given, more.after, c.give-count.ensures.same_calls ∙ c.loop-filled.invariant.3)
