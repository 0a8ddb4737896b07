use Rattle.std.proofs.Common.{◌∙◌, ℕ, List, Result, Ok, refl, sym, arith}
use Rattle.std.proofs.lemmas.Result.{err_from_is_err_and}
use Rattle.vms_base.specs.declared.headers.Header.{Header}
use Rattle.vms_base.specs.declared.ids.PlaceId.{PlaceId}
use Rattle.vms_line.specs.declared.causes.LineCause.{LineCause}
use Rattle.vms_line.specs.Common.{node_field, number_up_to, index_under, turn_fields}
use Rattle.vms_base.specs.Common.{node_at}
use Rattle.vms_text.specs.Common.{and_then}
use Rattle.vms_line.proofs.FieldCounts.{below_three, first-fails, second-fails}
use Rattle.vms_line.proofs.form_fields.turn_fields.Goals as goal

-- what the last field adds
abbrev index_after : Header → List ℕ → PlaceId → ℕ → Result (PlaceId × ℕ × ℕ) LineCause
index_after header index node order = and_then (number_up_to 3 index) (λ index.
    and_then (index_under header (node_at header.layout node.number) index) (λ index. Ok (node, order, index)))

pub returns-in_default : goal.returns-in_default
returns-in_default c =
    sym (below_three (turn_fields c.args.header.now) refl (λ a. refl) (λ a b. refl) c.args.fields.now (omega arith))

pub returns-in_err-node : goal.returns-in_err-node
returns-in_err-node c =
    let p = err_from_is_err_and c.from_residual.result c.from_residual.ensures.1 in
    rw (p.1, p.2) (first-fails (turn_fields c.args.header.now) (node_field c.args.header.now) (number_up_to 10)
    (index_after c.args.header.now) (λ a b c. refl) c.args.fields.now (omega arith) c.in_err-node.field-0.0
    (sym c.node_field.ensures ∙ c.in_err-node.was))

pub returns-in_err-order : goal.returns-in_err-order
returns-in_err-order c =
    let p = err_from_is_err_and c.from_residual-in_err-order.result c.from_residual-in_err-order.ensures.1 in
    rw (p.1, p.2) (second-fails (turn_fields c.args.header.now) (node_field c.args.header.now) (number_up_to 10)
    (index_after c.args.header.now) (λ a b c. refl) c.args.fields.now (omega arith) c.in_err-order.field-0.0
    c.in_ok-node.node (sym c.node_field.ensures ∙ c.in_ok-node.was)
    (sym c.index_field.ensures ∙ c.in_err-order.was))
