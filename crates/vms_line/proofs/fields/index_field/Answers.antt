use Rattle.std.proofs.Common.{arith, sym, ◌∙◌}
use Rattle.vms_line.proofs.Known.{number_up_to-le}
use Rattle.vms_line.proofs.fields.index_field.Goals as goal

pub overflow_cast-result : goal.overflow_cast-result
overflow_cast-result c =
    let small =
    number_up_to-le c.from.result c.args.word.now c.in_ok-number.number
    (sym c.number_up_to.ensures ∙ c.in_ok-number.was) in
    omega (arith, small)
