-- Which histories are phases of given lines, and what the lines answer in them.
use Rattle.std.specs.Prelude.{◌≡◌, ℕ, true, ℤ, pos, List, [], ◌∷◌, ◌++◌, length, map, reverse, slice_index_or, Some}
use Rattle.vms_history.specs.Common.{after, own}
use Rattle.vms_group_core.specs.declared.call_values.GroupAnswer.{GroupAnswer}
use Rattle.vms_group_core.specs.declared.call_values.GroupAnswer.TheVariants.{Done, Value as Answers}
use Rattle.vms_group_core.specs.declared.call_values.GroupCall.{GroupCall}
use Rattle.vms_group_core.specs.declared.call_values.GroupCall.TheVariants.{Value}
use Rattle.vms_group_core.specs.declared.steps.GroupFacts.{GroupFacts}
use Rattle.vms_group_core.specs.declared.steps.GroupStep.{GroupStep}
use Rattle.vms_group_core.specs.declared.steps.GroupStep.TheVariants.{Split, Join}
use Rattle.vms_group_core.specs.declared.trees.Tree.{Tree}
use Rattle.vms_group_core.specs.Common.{History, IsComplete, IsGroupCall, IsTreeCpu, read_group_call}
use Rattle.vms_group_phase.specs.declared.items.GroupItem.{GroupItem}
use Rattle.vms_group_phase.specs.declared.items.NumberedValue.{NumberedValue}
use Rattle.vms_group_phase.specs.declared.worlds.GroupWorld.{GroupWorld}
use Rattle.vms_group_phase.specs.Lines.{has_some, lane_lines, lanes_below, pass_of}
use Rattle.vms_group_phase.specs.Worlds.{group_facts}

-- the steps that begin a pass for each of these lanes, and those that end them
abbrev pub splits_of : List GroupItem → List ℕ → List GroupStep
splits_of items lanes = map (λ c. Split (pass_of items c) (Some (record { number = c }))) lanes

abbrev pub joins_of : List GroupItem → List ℕ → List GroupStep
joins_of items lanes = map (λ c. Join (pass_of items c)) lanes

-- steps begin with those of a call, with this answer, and the others are such
pub record BeginWithCall (facts : GroupFacts) (call : GroupCall) (answer : GroupAnswer)
    (Others : List GroupStep → Type 0) (steps : List GroupStep) : Type 0 where
  pub first : List GroupStep
  pub others : List GroupStep
  pub parts : steps ≡ first ++ others
  pub is_call : IsGroupCall facts call first answer
  pub go_on : Others others

-- the steps of these lines in their order, each call's, with what each line answers
abbrev pub AreOfLines : GroupFacts → List GroupItem → List GroupAnswer → List GroupStep → Type 0
AreOfLines facts [] [] steps = steps ≡ []
AreOfLines facts (item ∷ items) (answer ∷ answers) steps =
    BeginWithCall facts item.call answer (AreOfLines facts items answers) steps
AreOfLines facts _ _ steps = ⊥

-- pass p made these lines, and nothing else
pub record MakesLines (facts : GroupFacts) (lines : List GroupItem) (p : ℕ) (h : History) : Type 0 where
  pub steps : List GroupStep
  pub answers : List GroupAnswer
  pub own_events : own h p ≡ after p steps []
  pub of_lines : AreOfLines facts lines answers steps

-- a history is a phase of these lines from this world: it is legal, and every pass has ended; the main pass began a
-- pass for each lane that has lines, and then ended them, in the order of the CPUs; and each of these made its lane's
-- lines
pub record IsGroupPhase (tree : Tree) (w : GroupWorld) (items : List GroupItem) (h : History) : Type 0 where
  pub complete : IsComplete (group_facts tree w) h
  pub main : own h 0 ≡ after 0 (splits_of items (lanes_below items tree.cpus)
      ++ joins_of items (lanes_below items tree.cpus)) []
  pub lanes : (c : ℕ) → IsTreeCpu tree c → has_some (lane_lines c items) ≡ true →
      MakesLines (group_facts tree w) (lane_lines c items) (pass_of items c) h

-- the steps of a caller, the oldest first
abbrev pub steps_of : History → ℕ → List GroupStep
steps_of h p = map (λ e. e.step) (reverse (own h p))

-- what the steps of these lines answer, line by line
abbrev pub read_lines : GroupFacts → List GroupItem → List GroupStep → List GroupAnswer
read_lines facts [] steps = []
read_lines facts (item ∷ items) steps =
    (read_group_call facts item.call steps).0 ∷ read_lines facts items (read_group_call facts item.call steps).1

-- the value in an answer
abbrev pub value_in : GroupAnswer → ℤ
value_in (Answers v) = v
value_in Done = pos 0

-- the values among answers, in their order
abbrev pub values_among : List GroupAnswer → List ℤ
values_among [] = []
values_among (Answers v ∷ answers) = v ∷ values_among answers
values_among (Done ∷ answers) = values_among answers

-- what a line answers with a value, if it asks for one: the lane's next answer after those of its lines above
abbrev pub value_of_line : (ℕ → List GroupAnswer) → (above : List GroupItem) → GroupItem → GroupCall
    → List NumberedValue
value_of_line answers above item (Value g) = record {
  number = item.number;
  value = value_in (slice_index_or (answers item.cpu.number) (length (lane_lines item.cpu.number above)) Done);
} ∷ []
value_of_line answers above item _ = []

-- the values of lines in their order, by what each lane answers, after those above
abbrev pub values_after : (ℕ → List GroupAnswer) → (above : List GroupItem) → List GroupItem → List NumberedValue
values_after answers above [] = []
values_after answers above (item ∷ items) =
    value_of_line answers above item item.call ++ values_after answers (above ++ item ∷ []) items

-- what the lines of a phase answer with a value, in their order, as the steps of their lanes tell it
abbrev pub group_values : Tree → GroupWorld → List GroupItem → History → List NumberedValue
group_values tree w items h = values_after (λ c. read_lines (group_facts tree w) (lane_lines c items)
    (steps_of h (pass_of items c))) [] items
