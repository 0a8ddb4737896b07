-- The goals were that the volumes hold what the CPU has spent in what the pass has seen, that its groups begin where
-- the pass keeps, and that what the main pass keeps of the settings stands.
use Rattle.std.proofs.Common.{◌≡◌, ◌∙◌, Some, ap, sym, subst}
use Rattle.vms_calls.specs.Common.{IsFree, Facts, Shape, Step, role}
use Rattle.vms_seats.specs.Common.{Pass, Shared}
use Rattle.vms_words.specs.Common.{HoldsSpending, groups_start}
use Rattle.vms_words.proofs.Begun.{owning-begun}
use Rattle.vms_words.proofs.MainSettings.{IsMainPass-begun}
use Rattle.vms_words.proofs.tables.PageTable.cpu_pass.Goals as goal

pub invariant_of-result : goal.invariant_of-result
invariant_of-result c = (
  owning-begun c.begin-worker.new.self c.main.inside.main c.begin-worker.result c.args.cpu c.begin-worker.ensures
      (subst (λ (p : Pass Facts Step). IsFree role p.seen (Some c.args.cpu)) (sym c.main.view_is) c.requires.free)
      c.args.volume
      (subst (λ (p : Pass Facts Step). HoldsSpending p.facts.layout p.seen c.args.cpu.number c.args.volume)
      (sym c.main.view_is)
      (subst (λ (facts : Facts). HoldsSpending facts.layout c.args.main.now.seen c.args.cpu.number c.args.volume)
      (sym c.requires.table.facts) c.requires.volume)),
  subst (λ (shape : Shape). c.first_group-first_group.result ≡ groups_start shape c.args.cpu.number)
      (sym (ap (λ (f : Facts). f.layout) (c.begin-worker.ensures.facts ∙ ap (λ (p : Pass Facts Step). p.facts)
      c.main.view_is ∙ c.requires.table.facts ∙ ap (λ (s : Shared Facts). s.facts) (sym c.self.view_is))
      ∙ c.self.invariant.same))
      c.first_group-first_group.ensures,
)

pub invariant_of-main : goal.invariant_of-main
invariant_of-main c =
    IsMainPass-begun c.begin-worker.new.self c.main.inside.main c.begin-worker.result c.args.cpu c.begin-worker.ensures
    c.main.inside.kept c.main.invariant
