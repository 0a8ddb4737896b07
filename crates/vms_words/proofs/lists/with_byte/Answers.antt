-- The goals were that neither sum wraps, and that one byte of the word is changed.
use Rattle.std.proofs.Common.{refl, ◌∙◌}
use Rattle.vms_words.proofs.PackedEntries.{old-within, result-fits, result-bytes}
use Rattle.vms_words.proofs.lists.with_byte.Goals as goal

pub overflow_sub-result : goal.overflow_sub-result
overflow_sub-result c =
    old-within c.args.word c.from.result c.args.byte c.args.position c.args.byte c.ranges.word.fits c.requires
    c.ranges.byte.fits (c.from.ensures ∙ c.byte_of.ensures) refl

pub overflow_add-result : goal.overflow_add-result
overflow_add-result c = record {
  fits = result-fits c.args.word c.from.result c.from-2.result c.args.position c.args.byte c.ranges.word.fits c.requires
      c.ranges.byte.fits (c.from.ensures ∙ c.byte_of.ensures) c.from-2.ensures;
}

pub returns : goal.returns
returns c =
    result-bytes c.args.word c.from.result c.from-2.result c.args.position c.args.byte c.ranges.word.fits c.requires
    c.ranges.byte.fits (c.from.ensures ∙ c.byte_of.ensures) c.from-2.ensures
