-- What a caller made in the course of a call, and when.
use Rattle.std.specs.Prelude.{◌≡◌, ℕ, List, ◌∷◌}
use Rattle.vms_calls.specs.Common.{Extends, Facts, History, Step, after, own}
use Rattle.vms_core.specs.Pages.{IsLegal}

-- caller p made these steps since the earlier history, the oldest first, whatever others did in between
pub record MadeSince (facts : Facts) (later earlier : History) (p : ℕ) (steps : List Step) : Type 0 where
  pub legal : IsLegal facts later
  pub extends : Extends later earlier
  pub made : own later p ≡ after p steps (own earlier p)

-- caller p made a step between these histories, and before it `moment` was the whole history
pub record StepsAt (later earlier : History) (p : ℕ) (step : Step) (moment : History) : Type 0 where
  pub begins : Extends moment earlier
  pub until : Extends later (record { caller = p; step = step } ∷ moment)
