use Rattle.std.proofs.Common.{◌≡◌, ◌≤◌, drop}
use Rattle.vms_text.proofs.Digits.{digits_from}
use Rattle.vms_text.proofs.numbers.read_digits.Given as goal

abbrev pub invariant-loop-byte : goal.invariant-loop-byte
invariant-loop-byte l =
    (l.value ≤ l.most) × (digits_from l.most l.value (drop l.byte-index l.digits) ≡ digits_from l.most 0 l.digits)
