-- The goals were that the pass may make the step, and that the volumes still hold what its CPU spent.
use Rattle.std.proofs.Common.{sym, subst}
use Rattle.vms_calls.specs.Common.{pages}
use Rattle.vms_seats.specs.Common.{MayStep}
use Rattle.vms_words.specs.Common.{OwningPass, told}
use Rattle.vms_words.specs.Shown.{shown}
use Rattle.vms_words.proofs.Volumes.{keeping-step, keeps-spends}
use Rattle.vms_words.proofs.passes.CpuPassCaller.load_at.Goals as goal

pub load_at-requires-clause-step : goal.load_at-requires-clause-step
load_at-requires-clause-step c = subst
    (λ (p : OwningPass). MayStep pages shown p.pass c.args.place (λ n. n) (told c.args.plan.now))
    (sym c.self.view_is) c.requires.step

pub invariant_of-self : goal.invariant_of-self
invariant_of-self c =
    keeping-step c.load_at.new.self c.self.inside.worker c.self.inside.cpu c.self.inside.first_group
    c.self.inside.volume
    (told c.args.plan.now c.load_at.result) c.self.invariant c.load_at.ensures
    (keeps-spends (told c.args.plan.now c.load_at.result) (c.requires.leaves c.load_at.result))
