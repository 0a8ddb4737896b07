-- What prints the lines of a phase that wait, as their answers come.
use Rattle.std.specs.Prelude.{◌≡◌, ℕ, List, ◌++◌, drop}
use Rattle.vms_world.specs.Common.{Header}
use Rattle.vms_answers.specs.Common.{NumberedAnswer}
use Rattle.vms_replay.specs.declared.printers.WaitPrinter.{WaitPrinter}
use Rattle.vms_replay.specs.Waits.{written}

-- what is printed at the end, where these answers are still to come
abbrev pub printed_by : Header → WaitPrinter → List NumberedAnswer → List ℕ
printed_by header printer answers =
    printer.out.items ++ written header (drop printer.next printer.waits.items) answers

-- a printer takes these answers: whatever answers come after them, the same is printed at the end
pub record Prints (header : Header) (first : WaitPrinter) (answers : List NumberedAnswer) (last : WaitPrinter)
    : Type 0 where
  pub text : (later : List NumberedAnswer)
      → printed_by header last later ≡ printed_by header first (answers ++ later)
