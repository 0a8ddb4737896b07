-- The goals were that the pass may make the step, and that the volumes still hold what its CPU spent.
use Rattle.std.proofs.Common.{sym, subst}
use Rattle.vms_calls.specs.Common.{pages}
use Rattle.vms_seats.specs.Common.{MayStep}
use Rattle.vms_words.specs.Common.{OwningPass, told}
use Rattle.vms_words.specs.Shown.{shown}
use Rattle.vms_words.proofs.Volumes.{keeping-step, keeps-spends}
use Rattle.vms_words.proofs.passes.CpuPassCaller.swap_at.Goals as goal

pub swap_at-requires-clause-step : goal.swap_at-requires-clause-step
swap_at-requires-clause-step c = subst
    (λ (p : OwningPass). MayStep pages shown p.pass c.args.place (λ n. c.args.new) (told c.args.plan.now))
    (sym c.self.view_is) c.requires.step

pub invariant_of-self : goal.invariant_of-self
invariant_of-self c =
    keeping-step c.swap_at.new.self c.self.inside.worker c.self.inside.cpu c.self.inside.first_group
    c.self.inside.volume
    (told c.args.plan.now c.swap_at.result) c.self.invariant c.swap_at.ensures
    (keeps-spends (told c.args.plan.now c.swap_at.result) (c.requires.leaves c.swap_at.result))
