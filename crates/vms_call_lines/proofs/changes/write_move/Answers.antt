-- Nothing, or two additions.
use Rattle.std.proofs.Common.{ap, sym, of_z, to_z, w64, ◌∙◌}
use Rattle.std.proofs.lemmas.Int.{to_z-of_z}
use Rattle.vms_call_lines.proofs.ChangeWays.{lines-moved, lines-nothing}
use Rattle.vms_call_lines.proofs.changes.write_move.Goals as goal

pub returns-then-moved-eq0-clause-ok : goal.returns-then-moved-eq0-clause-ok
returns-then-moved-eq0-clause-ok c =
    lines-nothing c.args.caller c.args.layout.now c.args.counter c.args.moved c.args.out.now.items
    (sym (to_z-of_z w64 c.args.moved c.ranges.moved) ∙ ap (to_z w64) c.if-moved-eq0.true)

pub returns-clause-ok : goal.returns-clause-ok
returns-clause-ok c =
    let kept = to_z-of_z w64 c.args.moved c.ranges.moved in
    lines-moved c.args.caller c.args.layout.now c.args.counter c.item_of.result c.args.moved _ _ c.args.out.now.items
    c.push_event_line.new.out.items c.push_event_line-2.new.out.items
    (λ none. c.if-moved-eq0.false (ap (of_z w64) none)) c.item_of.ensures.value kept kept
    c.in_ok-push_event_line.ensures.ok c.in_ok-push_event_line-2.ensures.ok
