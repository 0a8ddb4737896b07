use Rattle.std.proofs.Common.{◌≡◌, ◌++◌, flat_map, take}
use Rattle.vms_header.specs.Common.{base_lines_from}
use Rattle.vms_text.specs.Common.{sentence}
use Rattle.vms_header.proofs.spelling.write_bases.Given as goal

abbrev pub invariant-loop-counter : goal.invariant-loop-counter
invariant-loop-counter l =
    l.out.items ≡ l.initial.out.items ++ flat_map sentence (base_lines_from l.header 0 (take l.counter l.header.bases))
