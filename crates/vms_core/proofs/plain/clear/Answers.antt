-- One item after another is the value, and at the end all are.
use Rattle.std.proofs.Common.{◌≡◌, length, map, sym, ◌∙◌, arith}
use Rattle.std.proofs.lemmas.List.{ext_get_or, get_or-map, length-map}
use Rattle.vms_core.proofs.plain.clear.Goals as goal

pub returns : goal.returns
returns g c =
    let long : length c.loop-at.row ≡ length c.args.row.now = c.loop-at.invariant.same_length in
    ext_get_or c.args.value c.loop-at.row (map (λ _. c.args.value) c.args.row.now)
    (long ∙ sym (length-map c.args.row.now (λ _. c.args.value)))
    (λ n within. c.loop-at.invariant.done n (omega (arith, within, c.loop-at-test.false, c.len-at-end.ensures.len))
    ∙ sym (get_or-map (λ _. c.args.value) c.args.row.now n c.args.value c.args.value (omega (arith, within, long))))
