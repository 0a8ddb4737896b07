-- The goal was that the word of a group holds the eight differentials.
use Rattle.std.proofs.Common.{◌∙◌, ap, sym}
use Rattle.vms_base.specs.Groups.{word_of_bytes}
use Rattle.vms_words.specs.Common.{spot_word}
use Rattle.vms_words.proofs.GroupWords.{group-is}
use Rattle.vms_words.proofs.packed.word_of.Goals as goal

pub returns-in-Group : goal.returns-in-Group
returns-in-Group c =
    c.pack.ensures.value
    ∙ ap word_of_bytes (group-is c.args.state.now c.in-Group.cpu.number c.in-Group.group.number c.diffs_at.result.values
    (record { eight = c.diffs_at.ensures.eight; each = c.diffs_at.ensures.each }))
    ∙ ap (spot_word c.args.state.now) (sym c.in-Group.is)
