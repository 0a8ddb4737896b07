use Rattle.std.proofs.Common.{sym, arith, map}
use Rattle.std.proofs.lemmas.List.{length-map}
use Rattle.vms_line.proofs.FieldCounts.{count_fields-short}
use Rattle.vms_line.proofs.form_fields.count_fields.Goals as goal

pub returns-in_default : goal.returns-in_default
returns-in_default c =
    sym (count_fields-short (map (λ word. word.now) c.args.fields.now)
    (omega (arith, length-map c.args.fields.now (λ word. word.now))))
