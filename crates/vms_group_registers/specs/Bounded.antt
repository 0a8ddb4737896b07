-- Histories of a tree of groups in which no more than so many amounts rise at once.
use Rattle.std.specs.Prelude.{◌≢◌, ℕ, suc, ◌-◌, ◌≤◌, List, [], ◌∷◌, Option, Some, None, refl}
use Rattle.vms_history.specs.Common.{IsQuiet, Machine, Works}
use Rattle.vms_history.specs.declared.events.Event.{Event}
use Rattle.vms_group_core.specs.declared.states.GroupState.{GroupState}
use Rattle.vms_group_core.specs.declared.steps.GroupStep.{GroupStep}
use Rattle.vms_group_core.specs.declared.steps.GroupStep.TheVariants.{AddV, AddU, Split, Join}
use Rattle.vms_group_core.specs.declared.trees.Tree.{Tree}
use Rattle.vms_group_core.specs.Common.{CarriesNothing, History, IsBase, MayOwn, Meets, effect, parent_of, quiet_groups}
use Rattle.vms_group_core.specs.Common.{role}
use Rattle.vms_group_registers.specs.declared.facts.BoundedFacts.{BoundedFacts}

-- how many amounts rise once one was added to the value of a group with this parent
abbrev pub risen : Option ℕ → ℕ → ℕ
risen None n = n
risen (Some parent) n = suc n

-- how many amounts rise after a step, and after a history, over all passes
abbrev pub rising_after : Tree → GroupStep → ℕ → ℕ
rising_after tree (AddV g a) n = risen (parent_of tree g) n
rising_after tree (AddU g a) n = n - 1
rising_after tree _ n = n

abbrev pub rising_in : Tree → List (Event GroupStep) → ℕ
rising_in tree [] = 0
rising_in tree (e ∷ h) = rising_after tree e.step (rising_in tree h)

-- there is room for what a step makes rise
abbrev pub HasRoom : Tree → ℕ → List (Event GroupStep) → GroupStep → Type 0
HasRoom tree room h (AddV g a) = risen (parent_of tree g) (rising_in tree h) ≤ room
HasRoom tree room h _ = Unit {0}

-- there was room for each step of a history
abbrev pub HadRoom : Tree → ℕ → List (Event GroupStep) → Type 0
HadRoom tree room [] = Unit {0}
HadRoom tree room (e ∷ h) = HadRoom tree room h × HasRoom tree room h e.step

-- the table of a tree of groups, where there is so much room
abbrev pub bounded_groups : Machine BoundedFacts GroupStep GroupState
bounded_groups = record {
  role = role;
  base = λ facts. facts.groups.base;
  effect = λ facts who step s. effect facts.groups who step s;
  CanBegin = λ facts. IsBase facts.groups;
  MayOwn = λ facts who. MayOwn facts.groups who;
  MayEnd = λ facts h. CarriesNothing facts.groups.tree h;
  Meets = λ facts h s p step. Meets facts.groups h s p step × HasRoom facts.groups.tree facts.room h step;
}

-- a step that begins or ends a pass makes nothing rise
room-quiet : (tree : Tree) (room : ℕ) (h : History) (step : GroupStep) → role step ≢ Works → HasRoom tree room h step
room-quiet tree room h (Split q who) differs = tt
room-quiet tree room h (Join q) differs = tt
room-quiet tree room h _ differs = absurd (differs refl)

pub quiet_bounded : IsQuiet bounded_groups
quiet_bounded = record {
  leaves = λ facts who step s differs. quiet_groups.leaves facts.groups who step s differs;
  asks_nothing = λ facts h s p step differs. (
    quiet_groups.asks_nothing facts.groups h s p step differs,
    room-quiet facts.groups.tree facts.room h step differs,
  );
}
