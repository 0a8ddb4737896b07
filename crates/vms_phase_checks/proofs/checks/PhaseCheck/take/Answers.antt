-- A legal event is taken as the step that its numbers say.
use Rattle.std.proofs.Common.{◌≡◌, ◌∷◌, Result, Ok, Err, MatchResult, Some, sym, subst, ◌∙◌}
use Rattle.vms_world.specs.Common.{Facts}
use Rattle.vms_core.specs.Pages.{IsLegal}
use Rattle.vms_written_lines.specs.WideSteps.{step_of}
use Rattle.vms_phase_checks.specs.Common.{IsEventFault, ShowsPages}
use Rattle.vms_phase_checks.proofs.checks.PhaseCheck.take.Goals as goal

match-of : {X E : Type 0} {A B : X → Type 0} {C D : E → Type 0} (r : Result X E) → ((x : X) → A x → B x)
    → ((e : E) → C e → D e) → MatchResult r A C → MatchResult r B D
match-of (Ok x) ok err told = ok x told
match-of (Err e) ok err told = err e told

pub returns : goal.returns
returns g c s items h fits checks =
    let step = c.in-Some.step in
    let is : step_of c.args.step.now ≡ Some step = sym c.narrow-narrowed.ensures.value ∙ c.in-Some.is in
    let shows = subst (λ (f : Facts). ShowsPages f h c.args.self.now.registers) (sym checks.facts) checks.shows in
    let legal = subst (λ (f : Facts). IsLegal f (record { caller = c.args.caller; step = step } ∷ h)) checks.facts
    ((c.judges.ensures h shows).0 c.if-not-judges.false) in
    match-of c.take_legal.result
    (λ x kept. (step, is, kept))
    (λ cause told. (
      told.0,
      subst (IsEventFault g.W.LaneWalk.pressure g.W.LaneWalk.normal c.args.header.now s items h
          c.args.caller c.args.step.now) (sym told.1) (step, is, legal, told.2),
    ))
    (c.take_legal.ensures s items h fits checks legal)
