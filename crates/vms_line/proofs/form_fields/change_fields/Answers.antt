use Rattle.std.proofs.Common.{◌≡◌, ◌∙◌, refl, sym, ap, arith, get_or, [], Ok, w64}
use Rattle.std.proofs.lemmas.Int.{to_z-of_z}
use Rattle.std.proofs.lemmas.Result.{err_from_is_err_and}
use Rattle.vms_line.specs.Common.{amount_field, counter_field, in_pages, change_fields}
use Rattle.vms_line.proofs.Known.{amount_field-fits, in_pages-fits}
use Rattle.vms_line.proofs.FieldCounts.{and_then-err, and_then-ok, four_words, below_four}
use Rattle.vms_line.proofs.form_fields.change_fields.Goals as goal

pub returns-in_default : goal.returns-in_default
returns-in_default c =
    sym (below_four (change_fields c.args.header.now) refl (λ a. refl) (λ a b. refl) (λ a b c. refl) c.args.fields.now
    (omega arith))

pub returns-in_err-counter : goal.returns-in_err-counter
returns-in_err-counter c =
    let p = err_from_is_err_and c.from_residual.result c.from_residual.ensures.1 in
    let shape = four_words c.args.fields.now (record { ref_ptr = (0, 0); now = [] }) (omega arith) in
    let failed =
    and_then-err (counter_field c.args.header.now
    (get_or c.args.fields.now 0 (record { ref_ptr = (0, 0); now = [] })).now
    (get_or c.args.fields.now 1 (record { ref_ptr = (0, 0); now = [] })).now
    (get_or c.args.fields.now 2 (record { ref_ptr = (0, 0); now = [] })).now) _ c.in_err-counter.field-0.0
    (sym c.counter_field.ensures ∙ c.in_err-counter.was) in
    rw (p.1, p.2) (sym (ap (change_fields c.args.header.now) shape ∙ failed))

pub returns : goal.returns
returns c =
    let header = c.args.header.now in
    let counter = c.in_ok-counter.counter in
    let amount = c.in_ok-amount.amount in
    let pages = c.in_ok-pages.pages in
    let shape = four_words c.args.fields.now (record { ref_ptr = (0, 0); now = [] }) (omega arith) in
    let named = sym c.counter_field.ensures ∙ c.in_ok-counter.was in
    let spelled = sym c.amount_field.ensures ∙ c.in_ok-amount.was in
    let small =
    amount_field-fits (get_or c.args.fields.now 3 (record { ref_ptr = (0, 0); now = [] })).now amount spelled in
    let whole : in_pages header counter amount ≡ Ok pages =
    ap (in_pages header counter) (sym (to_z-of_z w64 amount small)) ∙ sym c.in_pages.ensures ∙ c.in_ok-pages.was in
    ap (λ z. Ok (counter, z)) (to_z-of_z w64 pages (in_pages-fits header counter amount pages small whole))
    ∙ sym (ap (change_fields header) shape
    ∙ and_then-ok (counter_field header (get_or c.args.fields.now 0 (record { ref_ptr = (0, 0); now = [] })).now
    (get_or c.args.fields.now 1 (record { ref_ptr = (0, 0); now = [] })).now
    (get_or c.args.fields.now 2 (record { ref_ptr = (0, 0); now = [] })).now) _ counter named
    ∙ and_then-ok (amount_field (get_or c.args.fields.now 3 (record { ref_ptr = (0, 0); now = [] })).now) _ amount
    spelled
    ∙ and_then-ok (in_pages header counter amount) _ pages whole)
