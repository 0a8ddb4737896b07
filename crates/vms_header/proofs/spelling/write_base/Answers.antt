-- A base other than 0 has one line, and its counter fits in 32 bits.
use Rattle.std.proofs.Common.{◌++◌, ◌∷◌, [], ◌∙◌, ap, sym, arith, rules, pos, of_z, to_z-of_z, w64, SFits, flat_map}
use Rattle.std.specs.Fmt.{signed_decimal}
use Rattle.std.specs.Prelude.{codes}
use Rattle.vms_base.proofs.Common.{counter_count-most}
use Rattle.vms_header.specs.Common.{base_line_words}
use Rattle.vms_text.specs.Common.{counter_words, sentence}
use Rattle.vms_text.proofs.Common.{OnOk-from}
use Rattle.vms_header.proofs.BaseLines.{base_line-based}
use Rattle.vms_header.proofs.spelling.write_base.Goals as goal

pub overflow_cast-id : goal.overflow_cast-id
overflow_cast-id c =
    omega (
      arith,
      counter_count-most c.args.header.now.layout c.requires.header.is_layout,
      c.requires.header.bases_length,
    )

pub returns-clause-ok : goal.returns-clause-ok
returns-clause-ok c =
    let header = c.args.header.now in
    let fits : SFits w64 c.get-base.result = search rules in
    let line = base_line-based header c.args.counter c.get-base.result
    (λ nothing. c.if-base-eq0.false (ap (of_z w64) nothing)) in
    let read = ap (λ value. flat_map sentence (base_line_words header c.args.counter value))
    (sym (c.get-base.ensures (pos 0))) in
    let whole = ap (λ z. sentence (codes "base" ∷ counter_words header c.args.counter ++ signed_decimal z ∷ []))
    (to_z-of_z fits) ∙ line ∙ read in
    OnOk-from c.write_base_line.result _ _ (λ is. is
    ∙ ap (λ more. c.args.out.now.items ++ more) whole) c.write_base_line.ensures.ok
