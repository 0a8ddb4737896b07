-- The goal was that the word with one byte changed tells the list with one entry changed.
use Rattle.std.proofs.Common.{w8, w64, ap, ◌∙◌}
use Rattle.std.specs.Int.{cast_unsigned, to_le_bytes}
use Rattle.std.proofs.Math.ListN.{set}
use Rattle.std.proofs.lemmas.Int.{to_z-of_z}
use Rattle.vms_calls.specs.Common.{Diffs}
use Rattle.vms_words.proofs.PackedEntries.{changed-list}
use Rattle.vms_words.proofs.lists.PackedDiffs.with_entry.Goals as goal

pub returns : goal.returns
returns c =
    changed-list c.self.inside.word c.with_byte.result c.args.position c.args.differential c.requires.byte
    (c.with_byte.ensures
    ∙ ap (set (to_le_bytes w64 c.self.inside.word) c.args.position)
    (c.to_byte.ensures ∙ ap (cast_unsigned w8) (to_z-of_z w64 c.args.differential c.ranges.differential)))
    ∙ ap (λ (w : Diffs). set w.values c.args.position c.args.differential) c.self.view_is
