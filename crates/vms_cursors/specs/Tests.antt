-- The plan of what is left of a test of a watermark at each position.
use Rattle.std.specs.Prelude.{ℕ, true, false}
use Rattle.vms_calls.specs.Common.{Header, PlaceId, WaterMark, at_least_zero, free_pages, is_doubtful}
use Rattle.vms_calls.specs.LookReadings.{mark_told, value_told}
use Rattle.vms_calls.specs.declared.answers.Verdict.{Verdict}
use Rattle.vms_plans.specs.declared.due_steps.DueStep.TheVariants.{LoadsMark, LoadsValue}
use Rattle.vms_plans.specs.Common.{Plan, and_then, ends, frees_plan, test_plan, tested, waits}
use Rattle.vms_cursors.specs.Snapshots.{snapshot_answer, snapshot_at}
use Rattle.vms_cursors.specs.declared.test_positions.TestPosition.{TestPosition}
use Rattle.vms_cursors.specs.declared.test_positions.TestPosition.TheVariants.{Begun, Marked, Valued, Fast, Doubtful}

abbrev pub test_at : Header → PlaceId → WaterMark → ℕ → TestPosition → Plan Verdict
test_at header g mark most Begun = test_plan header g mark most
test_at header g mark most (Marked first) = waits (LoadsValue (free_pages header.layout g))
    (λ load. waits (LoadsMark g) (λ second. frees_plan header g mark most
    (is_doubtful first (value_told load) (mark_told second)) (value_told load)))
test_at header g mark most (Valued first value) = waits (LoadsMark g)
    (λ second. frees_plan header g mark most (is_doubtful first value (mark_told second)) value)
test_at header g mark most (Fast value) = ends (tested header g mark most true (at_least_zero value))
test_at header g mark most (Doubtful snapshot) =
    and_then (snapshot_at header.layout (free_pages header.layout g) snapshot)
    (λ free. ends (tested header g mark most false free))

-- the answer where the test has ended
abbrev pub test_answer : Header → PlaceId → WaterMark → ℕ → TestPosition → Verdict
test_answer header g mark most (Fast value) = tested header g mark most true (at_least_zero value)
test_answer header g mark most (Doubtful snapshot) = tested header g mark most false (snapshot_answer snapshot)
test_answer header g mark most _ = tested header g mark most false 0
