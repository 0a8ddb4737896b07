use Rattle.std.proofs.Common.{◌≡◌, length, map, take}
use Rattle.std.specs.Int.{w8, cast_signed}
use Rattle.vms_base.specs.Common.{AreBytes}
use Rattle.vms_base.proofs.packing.values_of.Given as goal

abbrev pub invariant-loop-i : goal.invariant-loop-i
invariant-loop-i l = record {
  length : length l.values ≡ 8;
  front : take l.i l.values ≡ map (cast_signed w8) (take l.i l.fn.bytes);
  range : AreBytes l.values;
}
