-- What a caller carries, by its own events alone, the newest first.
use Rattle.std.specs.Prelude.{◌≡◌, ℕ, nat_eq, ℤ, pos, neg_ℤ, ◌+ℤ◌, List, [], ◌∷◌, if◌then◌else◌}
use Rattle.std.specs.Ordering.{int_eq}
use Rattle.vms_history.specs.Common.{total}
use Rattle.vms_history.specs.declared.events.Event.{Event}
use Rattle.vms_group_core.specs.declared.steps.GroupStep.{GroupStep}
use Rattle.vms_group_core.specs.declared.steps.GroupStep.TheVariants.{TakeP, TakeU, AddV, AddU}
use Rattle.vms_group_core.specs.declared.trees.Tree.{Tree}
use Rattle.vms_group_core.specs.Trees.{IsGroup, is_child}

-- what a step takes out of the pending words of a group, less what it adds of that to the group's value
abbrev pub moved : ℕ → GroupStep → ℤ
moved g (TakeP c x v) = if nat_eq x g then v else pos 0
moved g (TakeU x v) = if nat_eq x g then v else pos 0
moved g (AddV x a) = if nat_eq x g then neg_ℤ a else pos 0
moved g _ = pos 0

-- what a caller carries for the value of a group
abbrev pub carried : ℕ → List (Event GroupStep) → ℤ
carried g h = total (moved g) h

-- the amounts without one that is this
abbrev pub without : ℤ → List ℤ → List ℤ
without a [] = []
without a (b ∷ amounts) = if int_eq b a then amounts else b ∷ without a amounts

-- the amounts that a caller carries for the pending word of a group: each was added to the value of one child, and is
-- added here once
abbrev pub carried_up_after : Tree → ℕ → GroupStep → List ℤ → List ℤ
carried_up_after tree g (AddV x a) before = if is_child tree x g then a ∷ before else before
carried_up_after tree g (AddU x a) before = if nat_eq x g then without a before else before
carried_up_after tree g _ before = before

abbrev pub carried_up : Tree → ℕ → List (Event GroupStep) → List ℤ
carried_up tree g [] = []
carried_up tree g (e ∷ h) = carried_up_after tree g e.step (carried_up tree g h)

-- a sum of amounts, each by this measure
abbrev pub sum_of : (ℤ → ℤ) → List ℤ → ℤ
sum_of measure [] = pos 0
sum_of measure (a ∷ amounts) = measure a +ℤ sum_of measure amounts

-- what a caller carries for the words of a group
abbrev pub in_hand : (ℤ → ℤ) → Tree → ℕ → List (Event GroupStep) → ℤ
in_hand measure tree g h = measure (carried g h) +ℤ sum_of measure (carried_up tree g h)

-- a caller carries nothing for the words of a group
pub record CarriesNone (tree : Tree) (g : ℕ) (h : List (Event GroupStep)) : Type 0 where
  pub value : carried g h ≡ pos 0
  pub up : carried_up tree g h ≡ []

-- a caller carries nothing for any group
abbrev pub CarriesNothing : Tree → List (Event GroupStep) → Type 0
CarriesNothing tree h = (g : ℕ) → IsGroup tree g → CarriesNone tree g h
