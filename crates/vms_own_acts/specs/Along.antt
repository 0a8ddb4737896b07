-- How far a pass's own events go along acts.
use Rattle.std.specs.Prelude.{◌≡◌, ℕ, List, [], ◌∷◌, ◌++◌}
use Rattle.vms_core.specs.Pages.{History}
use Rattle.vms_world.specs.Common.{Act, Step, after}

module _ (makes : Act → History → List Step → Type 0) (p : ℕ) where
  -- the own events end before an act, within it or after it
  pub data AlongAct (act : Act) (from to : History) (Later : History → Type 0) : Type 0 where
    here : from ≡ to → AlongAct act from to Later
    within : (begun due : List Step) → makes act from (begun ++ due) → to ≡ after p begun from
        → AlongAct act from to Later
    past : (steps : List Step) → makes act from steps → Later (after p steps from) → AlongAct act from to Later

  -- from some own events on pass p made the first of these acts, and stands after them or within the next one
  abbrev pub Along : List Act → History → History → Type 0
  Along [] from to = from ≡ to
  Along (act ∷ acts) from to = AlongAct act from to (λ mid. Along acts mid to)
