-- What the lines of a fold say.
use Rattle.std.specs.Prelude.{◌≡◌, ℕ, Bool, true, false, ℤ, List, ◌++◌, Option, Some}
use Rattle.vms_calls.specs.Common.{Absent, CpuId, Diffs, IsFold, IsItem, LeadsOn, Shape, State, Step, acknowledges}
use Rattle.vms_calls.specs.Common.{group_steps, SetO, in_turn, item_count, place_steps, system_steps, taken_of_item}
use Rattle.vms_calls.specs.Common.{with_cpu}
use Rattle.vms_plain_pages.specs.Common.{AddsSums, FoldsCpu, FoldsGroups, FoldsPlace, pages_by_state, sum_at}
use Rattle.vms_written_lines.specs.Spelling.{event_line}
use Rattle.vms_written_lines.specs.WideSteps.{widened}
use Rattle.vms_rating_lines.specs.Lines.{step_lines}

-- a fold leads from one state to another, and the lines of its steps are appended to a text
pub record WritesFold (shape : Shape) (is_own : Bool) (c : CpuId) (caller : ℕ) (s next : State) (out out' : List ℕ)
    : Type 0 where
  pub folds : FoldsCpu shape is_own c.number s next
  pub steps : List Step
  pub made : IsFold shape is_own c steps
  pub leads : (who : Option CpuId) → (is_own ≡ true → who ≡ Some c) → LeadsOn pages_by_state who steps s next
  pub lines : out' ≡ out ++ step_lines caller steps

-- it takes n groups from j on
pub record WritesGroups (shape : Shape) (c : CpuId) (j n caller : ℕ) (s next : State) (before after : List ℤ)
    (out out' : List ℕ) : Type 0 where
  pub folds : FoldsGroups shape c j n s next before after
  pub lines : out' ≡ out ++ step_lines caller (in_turn (group_steps c) j folds.groups)

-- it visits place g
pub record WritesPlace (shape : Shape) (is_own : Bool) (c : CpuId) (g caller : ℕ) (s next : State)
    (before after : List ℤ) (out out' : List ℕ) : Type 0 where
  pub folds : FoldsPlace shape is_own c g s next before after
  pub lines : out' ≡ out ++ step_lines caller (place_steps shape (acknowledges shape is_own g) c g folds.found)

-- it adds the sums to the system-wide values, where they are what was taken for the items
pub record WritesSums (shape : Shape) (sums : List ℤ) (caller : ℕ) (s next : State) (out out' : List ℕ) : Type 0 where
  pub adds : AddsSums shape sums s next
  pub lines : (groups : List Diffs) → ((i : ℕ) → IsItem shape i → taken_of_item shape i 0 groups ≡ sum_at sums i)
      → out' ≡ out ++ step_lines caller (system_steps shape groups 0 (item_count shape))

-- a dead CPU is folded and becomes absent
pub record WritesRemoval (shape : Shape) (c : CpuId) (caller : ℕ) (s next : State) (out out' : List ℕ) : Type 0 where
  pub folded : State
  pub between : List ℕ
  pub fold : WritesFold shape false c caller s folded out between
  pub absent : next ≡ with_cpu folded c.number Absent
  pub line : out' ≡ between ++ event_line caller (widened (SetO c))
