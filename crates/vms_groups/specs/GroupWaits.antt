-- The lines of an open phase that wait for its outcome, and how they are printed.
use Rattle.std.specs.Prelude.{◌≡◌, ℕ, suc, List, [], ◌∷◌, ◌++◌, flat_map}
use Rattle.vms_group_core.specs.declared.trees.Tree.{Tree}
use Rattle.vms_group_phase.specs.declared.items.NumberedValue.{NumberedValue}
use Rattle.vms_group_phase.specs.declared.worlds.GroupWorld.{GroupWorld}
use Rattle.vms_group_phase.specs.Common.{group_values}
use Rattle.vms_stream.specs.Common.{Text, spelled}
use Rattle.vms_groups.specs.declared.waits.GroupWait.{GroupWait}
use Rattle.vms_groups.specs.declared.waits.GroupWait.TheVariants.{Value, Refused}
use Rattle.vms_groups.specs.GroupTexts.{refused_group_line, value_after, value_line}
use Rattle.vms_groups.specs.PastPhases.{PastGroupPhase}

-- how many of the lines that wait ask for a value
abbrev pub asked_in : List GroupWait → ℕ
asked_in [] = 0
asked_in (Value n ∷ waiting) = suc (asked_in waiting)
asked_in (Refused cause n ∷ waiting) = asked_in waiting

-- what lines print that wait, where so many values were printed before: each that asks takes the next one
abbrev pub written_from : List NumberedValue → ℕ → List GroupWait → List ℕ
written_from values k [] = []
written_from values k (Value n ∷ waiting) = value_line n (value_after k values) ++ written_from values (suc k) waiting
written_from values k (Refused cause n ∷ waiting) = refused_group_line n cause ++ written_from values k waiting

-- lines that wait are those whose texts wait, but for the lines that print nothing
pub record TellsWaits (tree : Tree) (w : GroupWorld) (waiting : List GroupWait) (texts : List (Text PastGroupPhase))
    : Type 0 where
  pub same_text : (phase : PastGroupPhase) → flat_map (spelled phase) texts
      ≡ written_from (group_values tree w phase.items phase.events) 0 waiting
  pub none : waiting ≡ [] → texts ≡ []
  pub some : texts ≡ [] → waiting ≡ []
