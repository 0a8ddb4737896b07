use Rattle.std.proofs.Common.{◌≡◌, ◌++◌, flat_map, map, take}
use Rattle.vms_header.specs.Common.{counter_line_words}
use Rattle.vms_text.specs.Common.{sentence}
use Rattle.vms_header.proofs.spelling.write_counters.Given as goal

abbrev pub invariant-loop-decl : goal.invariant-loop-decl
invariant-loop-decl l =
    l.out.items ≡ l.initial.out.items ++ flat_map sentence (map counter_line_words (take l.decl-index l.counters))
