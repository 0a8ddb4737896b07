-- What goes on along a plan goes on along another that is the same.
use Rattle.std.proofs.Common.{◌≡◌, ◌∷◌, sym, subst}
use Rattle.vms_calls.specs.Common.{Step}
use Rattle.vms_plans.specs.Common.{Plan}
use Rattle.vms_cursors.specs.Cursors.{GoesOn, IsSame}

pub goes-through : {A : Type 0} (plan other last : Plan A) (step : Step) (later : Plan A) → plan ≡ other
    → IsSame other last → GoesOn last step later → GoesOn plan step later
goes-through plan other last step later is same goes = subst (λ x. GoesOn x step later) (sym is)
    (λ steps answer. (
      (λ run. (goes steps answer).0 ((same (step ∷ steps) answer).0 run)),
      (λ run. (same (step ∷ steps) answer).1 ((goes steps answer).1 run)),
    ))
