use Rattle.std.proofs.Common.{refl, sym, arith}
use Rattle.vms_line.specs.Common.{paged_fields}
use Rattle.vms_line.proofs.FieldCounts.{below_three}
use Rattle.vms_line.proofs.form_fields.paged_fields.Goals as goal

pub returns-in_default : goal.returns-in_default
returns-in_default c =
    sym (below_three (paged_fields c.args.header.now) refl (λ a. refl) (λ a b. refl) c.args.fields.now (omega arith))
