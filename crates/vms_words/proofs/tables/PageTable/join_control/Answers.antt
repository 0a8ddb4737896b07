-- The goal was that what the control pass kept stands after it ended.
use Rattle.std.proofs.Common.{sym, ap, ◌∙◌}
use Rattle.vms_seats.specs.Common.{Pass}
use Rattle.vms_calls.specs.Common.{Facts, Step}
use Rattle.vms_words.proofs.MainSettings.{IsMainPass-back}
use Rattle.vms_words.proofs.tables.PageTable.join_control.Goals as goal

pub invariant_of-main : goal.invariant_of-main
invariant_of-main c =
    IsMainPass-back c.end.new.self c.main.inside.main c.pass.inside.worker c.end.ensures
    (ap (λ (p : Pass Facts Step). p.facts) c.pass.view_is ∙ c.requires.table.1.facts ∙ sym c.requires.table.0.facts
    ∙ sym (ap (λ (p : Pass Facts Step). p.facts) c.main.view_is))
    c.pass.inside.kept c.pass.invariant
