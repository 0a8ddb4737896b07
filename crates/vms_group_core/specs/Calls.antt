-- The steps that each call makes, oldest first, and what is read off them: its answer, and the steps after the call's.
use Rattle.std.specs.Prelude.{◌≡◌, ℕ, suc, nat_eq, ℤ, pos, ◌+ℤ◌, List, [], ◌∷◌, ◌++◌, length, All, Option, Some, None}
use Rattle.std.specs.Prelude.{if◌then◌else◌, unsigned_abs}
use Rattle.std.specs.Ordering.{int_eq}
use Rattle.vms_group_core.specs.declared.call_values.GroupAnswer.{GroupAnswer}
use Rattle.vms_group_core.specs.declared.call_values.GroupAnswer.TheVariants.{Done, Value as Answers}
use Rattle.vms_group_core.specs.declared.call_values.GroupCall.{GroupCall}
use Rattle.vms_group_core.specs.declared.call_values.GroupCall.TheVariants.{Change, Flush, Value}
use Rattle.vms_group_core.specs.declared.steps.GroupFacts.{GroupFacts}
use Rattle.vms_group_core.specs.declared.steps.GroupStep.{GroupStep}
use Rattle.vms_group_core.specs.declared.steps.GroupStep.TheVariants.{AddP, TakeP, TakeU, AddV, AddU, LoadV}
use Rattle.vms_group_core.specs.declared.trees.Tree.{Tree}
use Rattle.vms_group_core.specs.Own.{sum_of}
use Rattle.vms_group_core.specs.Trees.{parent_of, subtree}
use Rattle.vms_group_core.specs.Words.{as_is}

-- a group is changed by its caller's CPU
pub record IsChange (g : ℕ) (a : ℤ) (steps : List GroupStep) : Type 0 where
  pub in_order : steps ≡ AddP g a ∷ []

-- the steps after a change
abbrev pub past_change : List GroupStep → List GroupStep
past_change (AddP g a ∷ steps) = steps
past_change steps = steps

-- a value is loaded
pub record IsValue (g : ℕ) (steps : List GroupStep) (answer : ℤ) : Type 0 where
  pub in_order : steps ≡ LoadV g answer ∷ []

-- what a load of a value found, and the steps after it
abbrev pub read_value : List GroupStep → ℤ × List GroupStep
read_value (LoadV g v ∷ steps) = (v, steps)
read_value steps = (pos 0, steps)

-- the words that are pending for a group from CPU c on, in ascending order, are taken, and these amounts found
abbrev pub takes : ℕ → ℕ → List ℤ → List GroupStep
takes g c [] = []
takes g c (v ∷ found) = TakeP (record { number = c }) g v ∷ takes g (suc c) found

-- an amount is added to the value of a group and to what is pending for its parent, if it has one
abbrev pub raises : Option ℕ → ℕ → ℤ → List GroupStep
raises None g a = AddV g a ∷ []
raises (Some parent) g a = AddV g a ∷ AddU parent a ∷ []

-- an amount is moved up, unless it is 0
abbrev pub moves_up : Tree → ℕ → ℤ → List GroupStep
moves_up tree g a = if int_eq a (pos 0) then [] else raises (parent_of tree g) g a

-- what was found pending for one group: from each CPU, and from its children
pub record Found : Type 0 where
  pub by_cpu : List ℤ
  pub up : ℤ

-- the sum of all that was found
abbrev pub all_of : Found → ℤ
all_of found = sum_of as_is found.by_cpu +ℤ found.up

-- one group is flushed: all that is pending for it is taken, and the sum is moved up
abbrev pub flushes : Tree → ℕ → Found → List GroupStep
flushes tree g found = takes g 0 found.by_cpu ++ (TakeU g found.up ∷ moves_up tree g (all_of found))

-- these groups are flushed one after another
abbrev pub flushes_each : Tree → List ℕ → List Found → List GroupStep
flushes_each tree (g ∷ groups) (found ∷ others) = flushes tree g found ++ flushes_each tree groups others
flushes_each tree _ _ = []

-- the groups of a subtree are flushed, the last declared first, so children before their parents
pub record IsFlush (tree : Tree) (g : ℕ) (found : List Found) (steps : List GroupStep) : Type 0 where
  pub one_each : length found ≡ length (subtree tree g)
  pub every_cpu : All (λ one. length one.by_cpu ≡ tree.cpus) found
  pub in_order : steps ≡ flushes_each tree (subtree tree g) found

-- what so many takes found in sum, and the steps after them
abbrev pub read_takes : ℕ → List GroupStep → ℤ × List GroupStep
read_takes (suc n) (TakeP c g v ∷ steps) = (v +ℤ (read_takes n steps).0, (read_takes n steps).1)
read_takes n steps = (pos 0, steps)

-- the steps after an amount was added to a value, and to what is pending for its parent
abbrev pub past_raises : Option ℕ → List GroupStep → List GroupStep
past_raises None (AddV g a ∷ steps) = steps
past_raises (Some parent) (AddV g a ∷ AddU x b ∷ steps) = steps
past_raises parent steps = steps

-- the steps after a group is flushed whose words from CPUs held this in sum
abbrev pub past_rest : Tree → ℕ → ℤ → List GroupStep → List GroupStep
past_rest tree g sum (TakeU x v ∷ steps) =
    if int_eq (sum +ℤ v) (pos 0) then steps else past_raises (parent_of tree g) steps
past_rest tree g sum steps = steps

-- the steps after these groups are flushed
abbrev pub past_flushes : Tree → List ℕ → List GroupStep → List GroupStep
past_flushes tree [] steps = steps
past_flushes tree (g ∷ groups) steps =
    past_flushes tree groups (past_rest tree g (read_takes tree.cpus steps).0 (read_takes tree.cpus steps).1)

-- the steps of each call with what it answers
abbrev pub IsGroupCall : GroupFacts → GroupCall → List GroupStep → GroupAnswer → Type 0
IsGroupCall facts (Change g a) steps Done = IsChange g a steps
IsGroupCall facts (Flush g) steps Done = (found : List Found) × IsFlush facts.tree g found steps
IsGroupCall facts (Value g) steps (Answers answer) = IsValue g steps answer
IsGroupCall facts _ steps _ = ⊥

-- what the steps of a call answer, and the steps after them
abbrev pub read_group_call : GroupFacts → GroupCall → List GroupStep → GroupAnswer × List GroupStep
read_group_call facts (Change g a) steps = (Done, past_change steps)
read_group_call facts (Flush g) steps = (Done, past_flushes facts.tree (subtree facts.tree g) steps)
read_group_call facts (Value g) steps = (Answers (read_value steps).0, (read_value steps).1)

-- what a call spends of its CPU's volume on group x: a change its size, on its own group alone
abbrev pub group_spent : GroupCall → ℕ → ℕ
group_spent (Change g a) x = if nat_eq g x then unsigned_abs a else 0
group_spent _ x = 0
