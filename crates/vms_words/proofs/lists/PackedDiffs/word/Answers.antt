-- The goal was that the word is the one of the list that it tells.
use Rattle.std.proofs.Common.{ap, sym, ◌∙◌}
use Rattle.vms_calls.specs.Common.{Diffs}
use Rattle.vms_base.specs.Groups.{word_of_bytes}
use Rattle.vms_words.specs.Common.{word-told}
use Rattle.vms_words.proofs.lists.PackedDiffs.word.Goals as goal

pub returns-clause-value : goal.returns-clause-value
returns-clause-value c =
    sym (word-told c.self.inside.word c.self.invariant) ∙ ap (λ (w : Diffs). word_of_bytes w.values) c.self.view_is
