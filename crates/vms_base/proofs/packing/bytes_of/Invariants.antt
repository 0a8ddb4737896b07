use Rattle.std.proofs.Common.{◌≡◌, length, map, take}
use Rattle.std.specs.Int.{w8, cast_unsigned}
use Rattle.vms_base.proofs.packing.bytes_of.Given as goal

abbrev pub invariant-loop-i : goal.invariant-loop-i
invariant-loop-i l = (length l.bytes ≡ 8) × (take l.i l.bytes ≡ map (cast_unsigned w8) (take l.i l.d.values))
