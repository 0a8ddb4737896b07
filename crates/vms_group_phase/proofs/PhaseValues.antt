-- What the lanes found is what the history of the phase tells.
use Rattle.std.proofs.Common.{◌≡◌, ℕ, suc, ◌<◌, ◌≤◌, true, List, [], ◌∷◌, ◌++◌, length, map, reverse, get_or, refl, sym}
use Rattle.std.proofs.Common.{ap, ◌∙◌, subst, arith, All, append_assoc, append-nil, cond, ℤ, pos}
use Rattle.std.proofs.lemmas.List.{map-append}
use Rattle.std.proofs.lemmas.List.Elements.{All-from_get_or, All-get_or, All-head, All-tail}
use mathlib.Core.List.{reverse-cons}
use Rattle.vms_history.specs.Common.{after}
use Rattle.vms_history.specs.declared.events.Event.{Event}
use Rattle.vms_group_core.specs.declared.call_values.GroupAnswer.{GroupAnswer}
use Rattle.vms_group_core.specs.declared.call_values.GroupAnswer.TheVariants.{Done, Value as Answers}
use Rattle.vms_group_core.specs.declared.call_values.GroupCall.{GroupCall}
use Rattle.vms_group_core.specs.declared.call_values.GroupCall.TheVariants.{Change, Flush, Value}
use Rattle.vms_group_core.specs.declared.steps.GroupFacts.{GroupFacts}
use Rattle.vms_group_core.specs.declared.steps.GroupStep.{GroupStep}
use Rattle.vms_group_core.specs.Common.{History, IsGroupCall, IsTreeCpu, read_group_call}
use Rattle.vms_group_phase.specs.declared.items.GroupItem.{GroupItem}
use Rattle.vms_group_phase.specs.declared.items.NumberedValue.{NumberedValue}
use Rattle.vms_group_phase.specs.declared.lanes.LaneValues.{LaneValues}
use Rattle.vms_group_phase.specs.Common.{AreOfLines, IsLineOf, IsOver, asking, asks, has_some, lane_lines, pass_of}
use Rattle.vms_group_phase.specs.Common.{read_lines, steps_of, taken_after, taken_by_line, value_in, value_of_line}
use Rattle.vms_group_phase.specs.Common.{values_after, values_among, values_of}
use Rattle.vms_group_phase.proofs.LaneLines.{has-some, lane-round, line_at, line-left, line-there, no_line}

-- what is read off the steps of a call, as the law of calls says it
abbrev pub AnswersAreRead : GroupFacts → Type 0
AnswersAreRead facts = (call : GroupCall) (steps rest : List GroupStep) (answer : GroupAnswer)
    → IsGroupCall facts call steps answer → read_group_call facts call (steps ++ rest) ≡ (answer, rest)

-- the steps that a caller made, read off its events
steps-after : (p : ℕ) (steps : List GroupStep) (h : History)
    → map (λ (e : Event GroupStep). e.step) (reverse (after p steps h))
    ≡ map (λ (e : Event GroupStep). e.step) (reverse h) ++ steps
steps-after p [] h = sym (append-nil (map (λ (e : Event GroupStep). e.step) (reverse h)))
steps-after p (step ∷ steps) h =
    let e : Event GroupStep = record { caller = p; step = step } in
    steps-after p steps (e ∷ h)
    ∙ ap (λ (list : List (Event GroupStep)). map (λ (one : Event GroupStep). one.step) list ++ steps) (reverse-cons e h)
    ∙ ap (λ list. list ++ steps) (map-append (λ (one : Event GroupStep). one.step) (reverse h) (e ∷ []))
    ∙ append_assoc (map (λ (one : Event GroupStep). one.step) (reverse h)) (step ∷ []) steps

module _ (facts : GroupFacts) (read : AnswersAreRead facts) where
  lines-read : (lines : List GroupItem) (answers : List GroupAnswer) (steps : List GroupStep)
      → AreOfLines facts lines answers steps → read_lines facts lines steps ≡ answers
  lines-read [] [] steps are = refl
  lines-read [] (a ∷ answers) steps are = absurd are
  lines-read (line ∷ lines) [] steps are = absurd are
  lines-read (line ∷ lines) (a ∷ answers) steps are =
      ap (λ (r : GroupAnswer × List GroupStep). r.0 ∷ read_lines facts lines r.1)
      (ap (read_group_call facts line.call) are.parts
      ∙ read line.call are.first are.others a are.is_call)
      ∙ ap (λ list. a ∷ list) (lines-read lines answers are.others are.go_on)

  -- what a lane that is over answered
  over-read : (items : List GroupItem) (lanes : List LaneValues) (h : History) (c : ℕ)
      → (over : IsOver facts items lanes h c)
      → read_lines facts (lane_lines c items) (steps_of h (pass_of items c)) ≡ over.answers
  over-read items lanes h c over =
      ap (read_lines facts (lane_lines c items))
      (ap (λ es. map (λ (e : Event GroupStep). e.step) (reverse es)) over.own_events
      ∙ steps-after (pass_of items c) over.steps [])
      ∙ lines-read (lane_lines c items) over.answers over.steps over.of_lines

module _ (facts : GroupFacts) where
  -- there is a value for each line that asks
  asks-answered : (lines : List GroupItem) (answers : List GroupAnswer) (steps : List GroupStep)
      → AreOfLines facts lines answers steps → length (asking lines) ≡ length (values_among answers)
  asks-answered [] [] steps are = refl
  asks-answered [] (a ∷ answers) steps are = absurd are
  asks-answered (line ∷ lines) [] steps are = absurd are
  asks-answered (line ∷ lines) (a ∷ answers) steps are =
      by line.call a are.is_call (asks-answered lines answers are.others are.go_on)
    where
      by : (call : GroupCall) (a : GroupAnswer) → IsGroupCall facts call are.first a
          → length (asking lines) ≡ length (values_among answers)
          → length (cond (asks call) (line ∷ asking lines) (asking lines)) ≡ length (values_among (a ∷ answers))
      by (Value g) (Answers v) is same = ap suc same
      by (Value g) Done is same = absurd is
      by (Change g d) Done is same = same
      by (Change g d) (Answers v) is same = absurd is
      by (Flush g) Done is same = same
      by (Flush g) (Answers v) is same = absurd is

  -- a line that asks is told the value that stands after those of the lines above it
  value-there : (above rest : List GroupItem) (item : GroupItem) (answers : List GroupAnswer) (steps : List GroupStep)
      (g : ℕ) → AreOfLines facts (above ++ (item ∷ rest)) answers steps → item.call ≡ Value g
      → get_or (values_among answers) (length (asking above)) (pos 0)
      ≡ value_in (get_or answers (length above) Done)
  value-there [] rest item [] steps g are call = absurd are
  value-there [] rest item (a ∷ answers) steps g are call =
      by a (subst (λ (c : GroupCall). IsGroupCall facts c are.first a) call are.is_call)
    where
      by : (a : GroupAnswer) → IsGroupCall facts (Value g) are.first a
          → get_or (values_among (a ∷ answers)) 0 (pos 0) ≡ value_in a
      by (Answers v) is = refl
      by Done is = absurd is
  value-there (line ∷ above) rest item [] steps g are call = absurd are
  value-there (line ∷ above) rest item (a ∷ answers) steps g are call =
      by line.call a are.is_call (value-there above rest item answers are.others g are.go_on call)
    where
      by : (call : GroupCall) (a : GroupAnswer) → IsGroupCall facts call are.first a
          → get_or (values_among answers) (length (asking above)) (pos 0)
          ≡ value_in (get_or answers (length above) Done)
          → get_or (values_among (a ∷ answers))
          (length (cond (asks call) (line ∷ asking above) (asking above))) (pos 0)
          ≡ value_in (get_or (a ∷ answers) (suc (length above)) Done)
      by (Value h) (Answers v) is same = same
      by (Value h) Done is same = absurd is
      by (Change h d) Done is same = same
      by (Change h d) (Answers v) is same = absurd is
      by (Flush h) Done is same = same
      by (Flush h) (Answers v) is same = absurd is

  -- what the lane of a CPU found is what its lines answered
  record Found (items : List GroupItem) (values : ℕ → List ℤ) (answers : ℕ → List GroupAnswer) (c : ℕ) : Type 0 where
    pub steps : List GroupStep
    pub of_lines : AreOfLines facts (lane_lines c items) (answers c) steps
    pub told : values c ≡ values_among (answers c)

  -- so lines are told what they answered
  values-found : (values : ℕ → List ℤ) (answers : ℕ → List GroupAnswer) (all above items : List GroupItem)
      → all ≡ above ++ items → All (λ (item : GroupItem). Found all values answers item.cpu.number) items
      → taken_after values above items ≡ values_after answers above items
  values-found values answers all above [] parts found = refl
  values-found values answers all above (item ∷ items) parts found =
      let P : GroupItem → Type 0 = λ line. Found all values answers line.cpu.number in
      ap (λ vs. vs ++ taken_after values (above ++ item ∷ []) items)
      (by item.call refl (All-head P item items found))
      ∙ ap (λ vs. value_of_line answers above item item.call ++ vs)
      (values-found values answers all (above ++ item ∷ []) items
      (parts ∙ sym (append_assoc above (item ∷ []) items)) (All-tail P item items found))
    where
      by : (call : GroupCall) → item.call ≡ call → Found all values answers item.cpu.number
          → taken_by_line values above item call ≡ value_of_line answers above item call
      by (Value g) is here =
          let c = item.cpu.number in
          let entry : ℤ → NumberedValue = λ v. record { number = item.number; value = v } in
          ap (λ v. entry v ∷ [])
          (ap (λ vs. get_or vs (length (asking (lane_lines c above))) (pos 0)) here.told
          ∙ value-there (lane_lines c above) (lane_lines c items) item (answers c) here.steps g
          (subst (λ (lines : List GroupItem). AreOfLines facts lines (answers c) here.steps)
          (ap (lane_lines c) parts ∙ lane-round above items item) here.of_lines) is)
      by (Change g d) is here = refl
      by (Flush g) is here = refl

module _ (facts : GroupFacts) (items : List GroupItem) (lanes : List LaneValues) (h : History)
    (known : All (IsLineOf facts.tree) items)
    (over : (c : ℕ) → IsTreeCpu facts.tree c → has_some (lane_lines c items) ≡ true → IsOver facts items lanes h c)
  where
    -- the lane of each line is over
    over-there : (n : ℕ) → n < length items → IsOver facts items lanes h (line_at items n).cpu.number
    over-there n below =
        let line = All-get_or (IsLineOf facts.tree) items n no_line below known in
        over (line_at items n).cpu.number line.cpu
        (has-some (lane_lines (line_at items n).cpu.number items)
        (let left = line-left n items (line_at items n) below (line-there items n below) in omega (arith, left)))

    pub all-found : All (λ (item : GroupItem). length (asking (lane_lines item.cpu.number items))
        ≤ length (values_of lanes item.cpu.number)) items
    all-found = All-from_get_or (λ (item : GroupItem). length (asking (lane_lines item.cpu.number items))
        ≤ length (values_of lanes item.cpu.number)) items no_line (λ n below.
        let c = (line_at items n).cpu.number in
        let there = over-there n below in
        let same = asks-answered facts (lane_lines c items) there.answers there.steps there.of_lines in
        let told = ap length there.told in
        omega (arith, same, told))

    pub values-read : AnswersAreRead facts → taken_after (values_of lanes) [] items
        ≡ values_after (λ c. read_lines facts (lane_lines c items) (steps_of h (pass_of items c))) [] items
    values-read read =
        let told : ℕ → List GroupAnswer = λ c. read_lines facts (lane_lines c items) (steps_of h (pass_of items c)) in
        values-found facts (values_of lanes) told items [] items refl
        (All-from_get_or (λ (item : GroupItem). Found facts items (values_of lanes) told item.cpu.number) items no_line
        (λ n below.
        let c = (line_at items n).cpu.number in
        let there = over-there n below in
        let is = sym (over-read facts read items lanes h c there) in
        record {
          steps = there.steps;
          of_lines = subst (λ (answers : List GroupAnswer).
              AreOfLines facts (lane_lines c items) answers there.steps) is there.of_lines;
          told = there.told ∙ ap values_among is;
        }))
