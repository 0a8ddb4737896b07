use Rattle.std.proofs.Common.{◌∙◌, sym, ap, arith, []}
use Rattle.vms_line.specs.Common.{name_fields}
use Rattle.vms_line.proofs.FieldCounts.{one_word}
use Rattle.vms_line.proofs.form_fields.name_fields.Goals as goal

pub returns : goal.returns
returns c =
    c.pcpu_field.ensures ∙ sym
    (ap (name_fields c.args.header.now)
    (one_word c.args.fields.now (record { ref_ptr = (0, 0); now = [] }) (omega arith)))
