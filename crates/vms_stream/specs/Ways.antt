-- How far outcomes take a command on its way.
use Rattle.std.specs.Prelude.{◌≡◌, ℕ, List, [], ◌∷◌, ◌++◌, Option, Some, None}
use Rattle.vms_stream.specs.declared.statuses.Status.{Status}
use Rattle.vms_stream.specs.PhasedBehaviors.{PhasedBehavior, Way, next_way, way_halts}
use Rattle.vms_stream.specs.PhasedBehaviors.Way.{On, Short}

-- the command is on its way
abbrev pub IsOn : {S O : Type 0} → Way S O → Type 0
IsOn (On s left) = Unit {0}
IsOn Short = ⊥

-- what is asked after a line: nothing where the line stops the command
abbrev pub unless_halted : Option Status → Type 0 → Type 0
unless_halted None later = later
unless_halted (Some halt) later = Unit {0}

-- each phase that ends at one of these lines has its outcome, up to a line that stops the command
abbrev pub HasAllOutcomes : {S O : Type 0} → PhasedBehavior S O → Way S O → List (List ℕ) → Type 0
HasAllOutcomes phased way [] = IsOn way
HasAllOutcomes phased way (line ∷ lines) =
    unless_halted (way_halts phased way line) (HasAllOutcomes phased (next_way phased way line) lines)

-- the same way with more outcomes left, as long as it isn't short
abbrev pub IsMore : {S O : Type 0} → List O → Way S O → Way S O → Type 0
IsMore more (On s left) way = way ≡ On s (left ++ more)
IsMore more Short way = Unit {0}
