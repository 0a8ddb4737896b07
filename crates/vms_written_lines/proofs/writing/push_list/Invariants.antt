use Rattle.std.proofs.Common.{◌≡◌, ◌++◌, map, take}
use Rattle.std.specs.Fmt.{signed_decimal}
use Rattle.vms_text.specs.Common.{spaced}
use Rattle.vms_written_lines.proofs.writing.push_list.Given as goal

abbrev pub invariant-loop-value : goal.invariant-loop-value
invariant-loop-value l = l.out.items ≡ l.initial.out.items ++ spaced (map signed_decimal (take l.value-index l.values))
