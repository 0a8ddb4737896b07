use Rattle.std.proofs.lemmas.Result.{IfOk-at_ok}
use Rattle.vms_line.specs.Common.{IsLineOf}
use Rattle.vms_line.proofs.LinesKnown.{read_line-known}
use Rattle.vms_line.proofs.parsing.lines_are_known.Goals as goal

pub returns : goal.returns
returns c = λ header text line is read. IfOk-at_ok (IsLineOf header) read (read_line-known header is text)
