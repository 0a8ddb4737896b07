-- The lines that wait are printed as their answers come.
use Rattle.std.proofs.Common.{◌≡◌, List, [], ap, ◌∙◌, append-nil}
use Rattle.vms_world.specs.Common.{Header}
use Rattle.vms_answers.specs.Common.{NumberedAnswer}
use Rattle.vms_replay.specs.declared.printers.WaitPrinter.{WaitPrinter}
use Rattle.vms_replay.specs.Common.{Prints, printed_by}

-- what is printed where all answers are taken
pub printed-all : (header : Header) (first last : WaitPrinter) (answers : List NumberedAnswer)
    → Prints header first answers last → printed_by header last [] ≡ printed_by header first answers
printed-all header first last answers prints =
    prints.text [] ∙ ap (printed_by header first) (append-nil answers)
