use Rattle.std.proofs.Common.{◌≡◌, ◌++◌, flat_map, map, take}
use Rattle.std.specs.Prelude.{zip}
use Rattle.vms_text.specs.Common.{sentence}
use Rattle.vms_header.specs.Common.{zone_line_words}
use Rattle.vms_header.proofs.spelling.write_zones.Given as goal

abbrev pub invariant-loop-place : goal.invariant-loop-place
invariant-loop-place l =
    l.out.items ≡ l.initial.out.items ++ flat_map sentence (map zone_line_words (take l.place (zip l.zones l.sizes)))
