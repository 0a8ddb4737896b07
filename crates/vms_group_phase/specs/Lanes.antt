-- How far the lanes of a phase have come: whose passes have begun, what they have made, and which are over.
use Rattle.std.specs.Prelude.{◌≡◌, ℕ, ◌≤◌, true, false, List, [], ◌∷◌, ◌++◌, All, length, map, slice_index_or, Result}
use Rattle.std.specs.Prelude.{IfOk, ℤ, pos}
use Rattle.vms_base.specs.declared.failures.Memory.{Memory}
use Rattle.vms_history.specs.Common.{after, begun_in, lives_in, own}
use Rattle.vms_group_core.specs.declared.call_values.GroupAnswer.{GroupAnswer}
use Rattle.vms_group_core.specs.declared.call_values.GroupCall.{GroupCall}
use Rattle.vms_group_core.specs.declared.call_values.GroupCall.TheVariants.{Value}
use Rattle.vms_group_core.specs.declared.steps.GroupFacts.{GroupFacts}
use Rattle.vms_group_core.specs.declared.steps.GroupStep.{GroupStep}
use Rattle.vms_group_core.specs.Common.{History, IsTreeCpu, role}
use Rattle.vms_seats.specs.Common.{IsFrom, Pass, Shared}
use Rattle.vms_group_phase.specs.declared.items.GroupItem.{GroupItem}
use Rattle.vms_group_phase.specs.declared.items.NumberedValue.{NumberedValue}
use Rattle.vms_group_phase.specs.declared.jobs.LaneDone.{LaneDone}
use Rattle.vms_group_phase.specs.declared.jobs.LaneJob.{LaneJob}
use Rattle.vms_group_phase.specs.declared.lanes.LaneValues.{LaneValues}
use Rattle.vms_group_phase.specs.LaneRuns.{MayRunJob}
use Rattle.vms_group_phase.specs.Lines.{asking, has_some, lane_lines, lanes_below, pass_of}
use Rattle.vms_group_phase.specs.Phases.{AreOfLines, joins_of, splits_of, values_among}

-- the job of a lane of a phase of these lines: its pass has made no step, and may make all lines of the lane
pub record IsLaneJob (table : Shared GroupFacts) (items : List GroupItem) (job : LaneJob) : Type 0 where
  pub lines : job.items.now ≡ items
  pub number : job.pass.pass.number ≡ pass_of items job.cpu.number
  pub fresh : own job.pass.pass.seen job.pass.pass.number ≡ []
  pub may : MayRunJob table job

-- the main pass has begun the passes of the lanes with lines below CPU n, and made no other step; these are their jobs
pub record HaveBegunLanes (table : Shared GroupFacts) (items : List GroupItem) (n : ℕ)
    (main : Pass GroupFacts GroupStep) (jobs : List LaneJob) : Type 0 where
  pub of : IsFrom main table
  pub own_events : own main.seen 0 ≡ after 0 (splits_of items (lanes_below items n)) []
  pub lanes : map (λ job. job.cpu.number) jobs ≡ lanes_below items n
  pub each : All (IsLaneJob table items) jobs

-- a lane that has run: its pass, which may end, made its lines and nothing else, and they answer with these values
pub record HasRunLane (table : Shared GroupFacts) (items : List GroupItem) (c : ℕ) (done : LaneDone) : Type 0 where
  pub is : done.cpu.number ≡ c
  pub of : IsFrom done.pass.pass table
  pub number : done.pass.pass.number ≡ pass_of items c
  pub steps : List GroupStep
  pub own_events : own done.pass.pass.seen (pass_of items c) ≡ after (pass_of items c) steps []
  pub answers : List GroupAnswer
  pub of_lines : AreOfLines table.facts (lane_lines c items) answers steps
  pub told : done.values.items ≡ values_among answers

-- the results of lanes, in the same order, unless no memory was found for one
abbrev pub AreResults : Shared GroupFacts → List GroupItem → List ℕ → List (Result LaneDone Memory) → Type 0
AreResults table items [] [] = Unit {0}
AreResults table items (c ∷ lanes) (result ∷ results) =
    IfOk result (HasRunLane table items c) × AreResults table items lanes results
AreResults table items _ _ = ⊥

-- the values that the lane of a CPU found, by the CPUs
abbrev pub values_of : List LaneValues → ℕ → List ℤ
values_of lanes c = slice_index_or (map (λ lane. lane.items.items) lanes) c []

-- the value that a line is told, if it asks for one: its lane's next after those of the lines above
abbrev pub taken_by_line : (ℕ → List ℤ) → (above : List GroupItem) → GroupItem → GroupCall → List NumberedValue
taken_by_line values above item (Value g) = record {
  number = item.number;
  value = slice_index_or (values item.cpu.number) (length (asking (lane_lines item.cpu.number above))) (pos 0);
} ∷ []
taken_by_line values above item _ = []

-- the values that lines are told in their order, after those above
abbrev pub taken_after : (ℕ → List ℤ) → (above : List GroupItem) → List GroupItem → List NumberedValue
taken_after values above [] = []
taken_after values above (item ∷ items) =
    taken_by_line values above item item.call ++ taken_after values (above ++ item ∷ []) items

-- a lane is over: its pass has ended, and has made the lane's lines, which found these values
pub record IsOver (facts : GroupFacts) (items : List GroupItem) (lanes : List LaneValues) (h : History) (c : ℕ)
    : Type 0 where
  pub given : pass_of items c ≤ begun_in role h
  pub ended : lives_in role h (pass_of items c) ≡ false
  pub steps : List GroupStep
  pub own_events : own h (pass_of items c) ≡ after (pass_of items c) steps []
  pub answers : List GroupAnswer
  pub of_lines : AreOfLines facts (lane_lines c items) answers steps
  pub told : values_of lanes c ≡ values_among answers

-- the main pass has begun all lanes and ended the first of them, which are over; these are the results of the others
pub record HaveEndedLanes (table : Shared GroupFacts) (items : List GroupItem) (main : Pass GroupFacts GroupStep)
    (lanes : List LaneValues) (results : List (Result LaneDone Memory)) : Type 0 where
  pub of : IsFrom main table
  pub one_each : length lanes ≡ table.facts.tree.cpus
  pub over : List ℕ
  pub left : List ℕ
  pub parts : lanes_below items table.facts.tree.cpus ≡ over ++ left
  pub own_events : own main.seen 0
      ≡ after 0 (joins_of items over) (after 0 (splits_of items (lanes_below items table.facts.tree.cpus)) [])
  pub each : All (IsOver table.facts items lanes main.seen) over
  pub rest : AreResults table items left results

-- all lanes with lines are over, and no pass lives
pub record HaveRunLanes (table : Shared GroupFacts) (items : List GroupItem) (main : Pass GroupFacts GroupStep)
    (lanes : List LaneValues) : Type 0 where
  pub of : IsFrom main table
  pub one_each : length lanes ≡ table.facts.tree.cpus
  pub ended : (q : ℕ) → lives_in role main.seen q ≡ false
  pub own_events : own main.seen 0 ≡ after 0 (splits_of items (lanes_below items table.facts.tree.cpus)
      ++ joins_of items (lanes_below items table.facts.tree.cpus)) []
  pub each : (c : ℕ) → IsTreeCpu table.facts.tree c → has_some (lane_lines c items) ≡ true →
      IsOver table.facts items lanes main.seen c
