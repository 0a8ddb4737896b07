-- Four fields are the four words of a base line, and any other number is malformed.
use Rattle.std.proofs.Common.{ℕ, List, Bor, [], arith, subst, sym}
use Rattle.vms_header.specs.Common.{base_row, draft_of, IsSameRead}
use Rattle.vms_header.proofs.RowsByValues.{base_row-other, four_words}
use Rattle.vms_header.proofs.sections.base_row.Goals as goal

pub returns-then-fields-ne4 : goal.returns-then-fields-ne4
returns-then-fields-ne4 c = base_row-other (draft_of c.args.draft) c.args.fields.now c.if-fields-ne4.true

pub returns : goal.returns
returns c =
    let fields = c.args.fields.now in
    let none : Bor (List ℕ) = record { ref_ptr = (0, 0); now = [] } in
    let words = four_words fields none (omega arith) in
    subst (λ words. IsSameRead draft_of (base_row (draft_of c.args.draft) words) c.base_of.result)
    (sym words) c.base_of.ensures
