-- After a zone line a base line is what its words say.
use Rattle.std.proofs.Common.{◌∙◌, ap, subst, sym}
use Rattle.std.proofs.lemmas.Result.{err_from_is_err_and}
use Rattle.vms_header.specs.Common.{with_base, draft_of, IsSameRead}
use Rattle.vms_text.specs.Common.{and_then}
use Rattle.vms_header.proofs.RowsByValues.{base_row-read}
use Rattle.vms_header.proofs.sections.base_of.Goals as goal

pub returns-in_err-base : goal.returns-in_err-base
returns-in_err-base c =
    let p = err_from_is_err_and c.from_residual.result c.from_residual.ensures.1 in
    let draft = draft_of c.args.draft in
    let none = sym c.is_empty.ensures ∙ c.if-is_empty.false in
    let read = base_row-read draft c.args.node.now c.args.kind.now c.args.item.now c.args.value.now none in
    let told = read ∙ ap (λ read. and_then read (λ base.
    with_base draft base.counter base.value)) (sym c.base_words.ensures ∙ c.in_err-base.was) in
    rw (p.1, p.2) told

pub returns : goal.returns
returns c =
    let draft = draft_of c.args.draft in
    let none = sym c.is_empty.ensures ∙ c.if-is_empty.false in
    let read = base_row-read draft c.args.node.now c.args.kind.now c.args.item.now c.args.value.now none in
    let told = read ∙ ap (λ read. and_then read (λ base.
    with_base draft base.counter base.value)) (sym c.base_words.ensures ∙ c.in_ok-base.was) in
    subst (λ answer. IsSameRead draft_of answer c.with_base.result) (sym told) c.with_base.ensures
