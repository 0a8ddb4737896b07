-- The goal was that the byte at a position is the entry there.
use Rattle.std.proofs.Common.{FitsSigned, pos, w8, w64, get_or, ap, sym, ◌∙◌}
use Rattle.std.specs.Int.{cast_signed}
use Rattle.std.proofs.lemmas.Int.{to_z-of_z}
use Rattle.vms_calls.specs.Common.{Diffs}
use Rattle.vms_words.proofs.PackedEntries.{entry-read}
use Rattle.vms_words.proofs.lists.PackedDiffs.entry.Goals as goal

pub returns-clause-value : goal.returns-clause-value
returns-clause-value c =
    let wide : FitsSigned w64 c.from.result = search in
    let narrow : FitsSigned w8 c.cast_signed.result = search in
    to_z-of_z w64 c.from.result wide ∙ c.from.ensures ∙ to_z-of_z w8 c.cast_signed.result narrow ∙ c.cast_signed.ensures
    ∙ ap (cast_signed w8) c.byte_of.ensures ∙ sym (entry-read c.self.inside.word c.args.position c.requires)
    ∙ ap (λ (w : Diffs). get_or w.values c.args.position (pos 0)) c.self.view_is
