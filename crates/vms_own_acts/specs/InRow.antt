-- Acts that a pass makes one after another, by its own events alone.
use Rattle.std.specs.Prelude.{◌≡◌, ℕ, List, [], ◌∷◌}
use Rattle.vms_core.specs.Pages.{History}
use Rattle.vms_world.specs.Common.{Act, Step, after}

-- these acts of pass p, one after another, lead from some own events to more: `makes` says which steps an act may make
-- where it begins after others
abbrev pub MakesInRow : (makes : Act → History → List Step → Type 0) → ℕ → List Act → History → History → Type 0
MakesInRow makes p [] from to = from ≡ to
MakesInRow makes p (act ∷ acts) from to =
    (steps : List Step) × makes act from steps × MakesInRow makes p acts (after p steps from) to
