use Rattle.std.proofs.Common.{◌≡◌, ◌-◌, ◌∷◌, List, length}
use Rattle.vms_answers.specs.Common.{NumberedAnswer}
use Rattle.vms_replay.specs.Common.{printed_by}
use Rattle.vms_replay.proofs.printers.WaitPrinterAnswerTaker.take.Given as goal

-- the lines before the next one are printed, and none of them is the line of the answer
abbrev pub invariant-waits : goal.invariant-waits
invariant-waits l = (later : List NumberedAnswer)
    → printed_by l.header l.self (record { number = l.number; answer = l.answer } ∷ later)
    ≡ printed_by l.header l.initial.self (record { number = l.number; answer = l.answer } ∷ later)

abbrev pub decreases-waits : goal.decreases-waits
decreases-waits l = length l.self.waits.items - l.self.next
