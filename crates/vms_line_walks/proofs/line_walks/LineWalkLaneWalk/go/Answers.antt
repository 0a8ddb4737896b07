-- The step is the one that is due, or it isn't.
use Rattle.std.proofs.Common.{◌≡◌, ◌∷◌, Bool, true, false, refl}
use Rattle.std.specs.Prelude.{MatchBool}
use Rattle.vms_line_walks.specs.ExactRules.{for-alone}
use Rattle.vms_line_walks.proofs.line_walks.LineWalkLaneWalk.go.Goals as goal

told : (b : Bool) (Went Stayed : Type 0) → (b ≡ true → Went) → (b ≡ false → Stayed) → MatchBool b Went Stayed
told true Went Stayed went stayed = went refl
told false Went Stayed went stayed = stayed refl

pub returns-clause-goes : goal.returns-clause-goes
returns-clause-goes c = λ base p h alone shows stands.
    let is = for-alone c.args.header.now base c.args.lane p (record { caller = p; step = c.args.step.now } ∷ h) alone in
    told c.go.result _ _
    (λ went.
    let later = c.go.ensures.goes went base p h is shows stands.0 in
    record {
      stands = (later, c.go.ensures.within);
      along = c.walks_go_along.ensures.along c.args.header.now base c.args.lane p c.args.acts.now c.go.new.self
          (record { caller = p; step = c.args.step.now } ∷ h) is later;
    })
    (λ stayed. c.go.ensures.stops stayed base p h is shows stands.0)
