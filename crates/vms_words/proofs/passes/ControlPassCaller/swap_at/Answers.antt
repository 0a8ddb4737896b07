-- The goals were that the pass may make the step, and that it still keeps what stands.
use Rattle.std.proofs.Common.{sym, subst}
use Rattle.vms_calls.specs.Common.{Facts, Step, pages}
use Rattle.vms_seats.specs.Common.{Pass, MayStep}
use Rattle.vms_words.specs.Shown.{shown}
use Rattle.vms_words.specs.Common.{told}
use Rattle.vms_words.proofs.ControlPasses.{IsControlPass-kept}
use Rattle.vms_words.proofs.passes.ControlPassCaller.swap_at.Goals as goal

pub swap_at-requires-clause-step : goal.swap_at-requires-clause-step
swap_at-requires-clause-step c = subst
    (λ (p : Pass Facts Step). MayStep pages shown p c.args.place (λ n. c.args.new) (told c.args.plan.now))
    (sym c.self.view_is) c.requires.step

pub invariant_of-self : goal.invariant_of-self
invariant_of-self c = IsControlPass-kept c.swap_at.new.self c.self.inside.worker c.self.inside.kept
    (told c.args.plan.now c.swap_at.result) c.self.invariant c.swap_at.ensures (c.requires.leaves c.swap_at.result)
