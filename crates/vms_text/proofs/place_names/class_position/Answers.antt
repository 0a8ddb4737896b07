use Rattle.std.proofs.Common.{arith, sym, ◌∙◌}
use Rattle.vms_text.proofs.Positions.{declared_position-lt}
use Rattle.vms_text.proofs.place_names.class_position.Goals as goal

pub overflow_add-result : goal.overflow_add-result
overflow_add-result c =
    let within =
    declared_position-lt c.args.node c.args.items.now c.args.word.now c.in_ok-declared_position-in-None.field-0
    (sym c.declared_position.ensures ∙ c.in_ok-declared_position-in-None.was) in
    omega (arith, within)
