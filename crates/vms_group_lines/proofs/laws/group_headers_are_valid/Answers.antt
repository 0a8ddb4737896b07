use Rattle.std.proofs.lemmas.Result.{IfOk-at_ok}
use Rattle.vms_group_lines.specs.Common.{IsGroupHeader}
use Rattle.vms_group_lines.proofs.HeadersSettled.{read_group_header-valid}
use Rattle.vms_group_lines.proofs.laws.group_headers_are_valid.Goals as goal

pub returns : goal.returns
returns c = λ lines header count read. IfOk-at_ok (λ found. IsGroupHeader found.0) read (read_group_header-valid lines)
