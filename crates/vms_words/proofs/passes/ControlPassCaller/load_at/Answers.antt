-- The goals were that the pass may make the step, and that it still keeps what stands.
use Rattle.std.proofs.Common.{sym, subst}
use Rattle.vms_calls.specs.Common.{Facts, Step, pages}
use Rattle.vms_seats.specs.Common.{Pass, MayStep}
use Rattle.vms_words.specs.Shown.{shown}
use Rattle.vms_words.specs.Common.{told}
use Rattle.vms_words.proofs.ControlPasses.{IsControlPass-kept}
use Rattle.vms_words.proofs.passes.ControlPassCaller.load_at.Goals as goal

pub load_at-requires-clause-step : goal.load_at-requires-clause-step
load_at-requires-clause-step c = subst
    (λ (p : Pass Facts Step). MayStep pages shown p c.args.place (λ n. n) (told c.args.plan.now))
    (sym c.self.view_is) c.requires.step

pub invariant_of-self : goal.invariant_of-self
invariant_of-self c = IsControlPass-kept c.load_at.new.self c.self.inside.worker c.self.inside.kept
    (told c.args.plan.now c.load_at.result) c.self.invariant c.load_at.ensures (c.requires.leaves c.load_at.result)
