-- Copies of one value are what a map to it makes.
use Rattle.std.proofs.Common.{sym, ◌∙◌}
use Rattle.std.proofs.lemmas.Simd.{splat_is_map}
use Rattle.vms_page_words.proofs.leaving.copies.Goals as goal

pub returns : goal.returns
returns g c =
    c.in_ok-made.ensures ∙ splat_is_map c.args.row.now c.len.result c.args.value (sym c.len.ensures.len)
