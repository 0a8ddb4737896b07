-- How a test of a watermark goes on from each position.
use Rattle.std.proofs.Common.{◌≡◌, ℕ, ◌<◌, ℤ, true, false, refl, sym, ap, subst, ◌∙◌, arith, ⊎_elim}
use Rattle.std.specs.Prelude.{Option, Some, None, IfSome}
use Rattle.vms_calls.specs.Common.{CounterId, Header, LoadG, LoadM, MarkRead, PlaceId, Step, WaterMark, free_pages}
use Rattle.vms_calls.specs.Common.{IsLayout, Shape, counter_at, is_doubtful}
use Rattle.vms_calls.specs.LookReadings.{mark_told, value_told}
use Rattle.vms_calls.specs.declared.answers.Verdict.{Verdict}
use Rattle.vms_plans.specs.declared.due_steps.DueStep.TheVariants.{LoadsMark, LoadsValue}
use Rattle.vms_plans.specs.Common.{Plan, frees_plan, tested, waits}
use Rattle.vms_plans.specs.declared.due_steps.DueStep.{DueStep}
use Rattle.vms_cursors.specs.Cursors.{GoesOn, HasEnded, IsDue, Stops}
use Rattle.vms_cursors.specs.Snapshots.{snapshot_answer, snapshot_at}
use Rattle.vms_cursors.specs.StepReadings.{mark_in, value_in}
use Rattle.vms_cursors.specs.Tests.{test_answer, test_at}
use Rattle.vms_cursors.specs.declared.snapshot_positions.SnapshotPosition.{SnapshotPosition}
use Rattle.vms_cursors.specs.declared.test_positions.TestPosition.{TestPosition}
use Rattle.vms_cursors.specs.declared.snapshot_positions.SnapshotPosition.TheVariants as snapshot
use Rattle.vms_cursors.specs.declared.test_positions.TestPosition.TheVariants.{Begun, Marked, Valued, Fast, Doubtful}
use Rattle.vms_cursors.proofs.Goes.{answering-due, answering-ended, answering-goes, answering-stops, waits-goes}
use Rattle.vms_cursors.proofs.Goes.{waits-stops}
use Rattle.vms_cursors.proofs.StepReadings.{mark-other, mark-read, value-other, value-read}

module _ (header : Header) (g : PlaceId) (mark : WaterMark) (most : ℕ) (step : Step) where
  abbrev k : CounterId
  k = free_pages header.layout g

  abbrev after_second : MarkRead → ℤ → Step → Plan Verdict
  after_second first value second =
      frees_plan header g mark most (is_doubtful first value (mark_told second)) value

  abbrev after_value : MarkRead → Step → Plan Verdict
  after_value first load = waits (LoadsMark g) (after_second first (value_told load))

  abbrev after_first : Step → Plan Verdict
  after_first first = waits (LoadsValue k) (after_value (mark_told first))

  pub first-goes : (first : MarkRead) → mark_in g.number step ≡ Some first
      → GoesOn (test_at header g mark most Begun) step (test_at header g mark most (Marked first))
  first-goes first told = waits-goes (LoadsMark g) after_first (LoadM g first.mark first.number) step refl
      (mark-read g step first told)

  pub first-stops : mark_in g.number step ≡ None → Stops (test_at header g mark most Begun) step
  first-stops none = waits-stops (LoadsMark g) after_first step (mark-other g step none)

  module _ (first : MarkRead) where
    pub value-goes : (v : ℤ) → value_in k.number step ≡ Some v
        → GoesOn (test_at header g mark most (Marked first)) step (test_at header g mark most (Valued first v))
    value-goes v told = waits-goes (LoadsValue k) (after_value first) (LoadG k v) step refl (value-read k step v told)

    pub value-stops : value_in k.number step ≡ None → Stops (test_at header g mark most (Marked first)) step
    value-stops none = waits-stops (LoadsValue k) (after_value first) step (value-other k step none)

    module _ (value : ℤ) where
      second-goes : (second : MarkRead) → mark_in g.number step ≡ Some second
          → GoesOn (test_at header g mark most (Valued first value)) step
          (frees_plan header g mark most (is_doubtful first value second) value)
      second-goes second told = waits-goes (LoadsMark g) (after_second first value) (LoadM g second.mark second.number)
          step refl (mark-read g step second told)

      pub doubt-goes : (second : MarkRead) → mark_in g.number step ≡ Some second
          → is_doubtful first value second ≡ true
          → GoesOn (test_at header g mark most (Valued first value)) step
          (test_at header g mark most (Doubtful snapshot.Begun))
      doubt-goes second told doubt =
          subst (λ b. GoesOn (test_at header g mark most (Valued first value)) step
          (frees_plan header g mark most b value)) doubt (second-goes second told)

      pub fast-goes : (second : MarkRead) → mark_in g.number step ≡ Some second
          → is_doubtful first value second ≡ false
          → GoesOn (test_at header g mark most (Valued first value)) step (test_at header g mark most (Fast value))
      fast-goes second told none =
          subst (λ b. GoesOn (test_at header g mark most (Valued first value)) step
          (frees_plan header g mark most b value)) none (second-goes second told)

      pub second-stops : mark_in g.number step ≡ None → Stops (test_at header g mark most (Valued first value)) step
      second-stops none = waits-stops (LoadsMark g) (after_second first value) step (mark-other g step none)

-- a layout has positions
pub some_positions : (shape : Shape) → IsLayout shape → 0 < shape.positions
some_positions shape is = ⊎_elim (λ eight. omega (arith, eight)) (λ sixteen. omega (arith, sixteen)) is.positions

-- a test in doubt goes on as its snapshot of the free pages does
module _ (header : Header) (g : PlaceId) (mark : WaterMark) (most : ℕ) (shape : Shape) (k : CounterId)
    (same : header.layout ≡ shape) (at : k.number ≡ counter_at shape g.number 0) (snap : SnapshotPosition) where
  abbrev tell : ℕ → Verdict
  tell free = tested header g mark most false free

  counted : ℕ → CounterId
  counted n = record { number = n }

  abbrev free_counter : CounterId
  free_counter = free_pages header.layout g

  k-is : k ≡ free_counter
  unfolding counted
  k-is = ap counted at ∙ ap (λ (s : Shape). counted (counter_at s g.number 0)) (sym same)

  -- what holds of the snapshot's plan in this layout holds of the plan in the header's
  moved : (P : Plan ℕ → Type 0) → P (snapshot_at shape k snap) → P (snapshot_at header.layout free_counter snap)
  moved P holds = subst (λ s. P (snapshot_at s free_counter snap)) (sym same)
      (subst (λ x. P (snapshot_at shape x snap)) k-is holds)

  pub doubtful-due : (self : TestPosition) → self ≡ Doubtful snap → (due : Option DueStep)
      → IfSome due (λ d. IsDue (snapshot_at shape k snap) d) → IfSome due (λ d. IsDue (test_at header g mark most self) d)
  doubtful-due self is None holds = holds
  doubtful-due self is (Some d) holds = subst (λ s. IsDue (test_at header g mark most s) d) (sym is)
      (answering-due tell (snapshot_at header.layout free_counter snap) d (moved (λ plan. IsDue plan d) holds))

  pub doubtful-ended : (self : TestPosition) → self ≡ Doubtful snap
      → HasEnded (snapshot_at shape k snap) (snapshot_answer snap)
      → HasEnded (test_at header g mark most self) (test_answer header g mark most self)
  doubtful-ended self is ended =
      subst (λ s. HasEnded (test_at header g mark most s) (test_answer header g mark most s)) (sym is)
      (answering-ended tell (snapshot_at header.layout free_counter snap) (snapshot_answer snap)
      (moved (λ plan. HasEnded plan (snapshot_answer snap)) ended))

  pub doubtful-stops : (step : Step) → Stops (snapshot_at shape k snap) step
      → Stops (test_at header g mark most (Doubtful snap)) step
  doubtful-stops step stops = answering-stops tell (snapshot_at header.layout free_counter snap) step
      (moved (λ plan. Stops plan step) stops)

  pub doubtful-goes : (step : Step) (later : SnapshotPosition)
      → GoesOn (snapshot_at shape k snap) step (snapshot_at shape k later)
      → GoesOn (test_at header g mark most (Doubtful snap)) step (test_at header g mark most (Doubtful later))
  doubtful-goes step later goes = answering-goes tell (snapshot_at header.layout free_counter snap)
      (snapshot_at header.layout free_counter later) step
      (subst (λ s. GoesOn (snapshot_at s free_counter snap) step (snapshot_at s free_counter later)) (sym same)
      (subst (λ x. GoesOn (snapshot_at shape x snap) step (snapshot_at shape x later)) k-is goes))
