use Rattle.vms_group_lines.proofs.HeadersSettled.{read_group_header-settled}
use Rattle.vms_group_lines.proofs.laws.group_headers_are_settled.Goals as goal

pub returns : goal.returns
returns c = read_group_header-settled
