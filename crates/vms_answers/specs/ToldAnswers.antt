-- What a kept answer says.
use Rattle.std.specs.Prelude.{◌≡◌, ◌<◌, ℕ, Bool, true, false, Option, IfSome}
use Rattle.vms_world.specs.Common.{Yes, No}
use Rattle.vms_answers.specs.declared.answers.Answer.{Answer}
use Rattle.vms_answers.specs.declared.answers.Answer.TheVariants.{Tested, Value, Snapshot, System, Events, Count, Total}
use Rattle.vms_answers.specs.declared.answers.Answer.TheVariants.{Compared, Limited, Balanced}
use Rattle.vms_answers.specs.declared.answers.NumberedAnswer.{NumberedAnswer}
use Rattle.vms_answers.specs.declared.answers.NumberedAnswer.TheVariants as kept
use Rattle.vms_answers.specs.PhaseAnswers as phases

-- an answer that is kept in 16 bytes: a zone that passed has a number of at most 8 bits, and so has the order of its
-- free block
abbrev pub IsKeepableAnswer : Answer → Type 0
IsKeepableAnswer (Balanced (Yes zone verdict)) =
    (zone.number < 256) × (verdict.yes ≡ true) × IfSome verdict.area (λ order. order < 256)
IsKeepableAnswer _ = Unit {0}

-- the answer that a node is balanced by a zone with so many free pages, in which a block of this order was found
abbrev pub balanced_by : ℕ → Option ℕ → ℕ → Bool → Answer
balanced_by zone area free fast = Balanced (Yes (record { number = zone })
    (record { yes = true; free = free; fast = fast; area = area }))

-- the number of a line with its answer
abbrev numbered : ℕ → Answer → phases.NumberedAnswer
numbered number answer = record { number = number; answer = answer }

-- the answer of a line
abbrev pub answer_of_kept : NumberedAnswer → phases.NumberedAnswer
answer_of_kept (kept.Tested passed fast number free) =
    numbered number (Tested (record { yes = passed; free = free; fast = fast }))
answer_of_kept (kept.Value number pages) = numbered number (Value pages)
answer_of_kept (kept.Snapshot number pages) = numbered number (Snapshot pages)
answer_of_kept (kept.System number pages) = numbered number (System pages)
answer_of_kept (kept.Events number sum) = numbered number (Events sum)
answer_of_kept (kept.Count number count) = numbered number (Count count)
answer_of_kept (kept.Total number sum) = numbered number (Total sum)
answer_of_kept (kept.Compared number answer) = numbered number (Compared answer)
answer_of_kept (kept.Limited number made) = numbered number (Limited made)
answer_of_kept (kept.BalancedFast zone area number free) = numbered number (balanced_by zone area free true)
answer_of_kept (kept.BalancedBySnapshot zone area number free) = numbered number (balanced_by zone area free false)
answer_of_kept (kept.Unbalanced number) = numbered number (Balanced No)
