-- The goal was that what the main pass keeps of the settings stands after the pass ended.
use Rattle.std.proofs.Common.{sym, ap, ◌∙◌}
use Rattle.vms_seats.specs.Common.{Pass}
use Rattle.vms_calls.specs.Common.{Facts, Step}
use Rattle.vms_words.specs.Common.{OwningPass}
use Rattle.vms_words.proofs.MainSettings.{IsMainPass-ended}
use Rattle.vms_words.proofs.tables.PageTable.join_cpu.Goals as goal

pub invariant_of-main : goal.invariant_of-main
invariant_of-main c =
    IsMainPass-ended c.end.new.self c.main.inside.main c.pass.inside.worker c.pass.inside.cpu c.end.ensures
    (ap (λ (p : OwningPass). p.pass.facts) c.pass.view_is ∙ c.requires.table.1.facts ∙ sym c.requires.table.0.facts
    ∙ sym (ap (λ (p : Pass Facts Step). p.facts) c.main.view_is))
    c.pass.invariant.0.live c.pass.invariant.0.owns c.main.inside.kept c.main.invariant
