-- The digits of x that are no leading zeros are exactly those that x needs.
use Rattle.std.proofs.Common.{◌≡◌, ◌+◌, ◌<◌, ◌≤◌, ◌^◌, ◌*◌, ◌-◌, ℕ, arith}
use Rattle.std.proofs.lemmas.Nat.{leading_length}
use Rattle.vms_base.specs.Common.{bits_of}
use Rattle.vms_base.proofs.Bits.{half_power, highest_bit-unique}
use Rattle.vms_base.proofs.numbers.fls.Goals as goal

record Fls (x k : ℕ) : Type 0 where
  value : k ≡ bits_of x
  above : x < 2 ^ k
  least : 0 < k → 2 ^ (k - 1) ≤ x
  most : k ≤ 64

from_length : (x zeros m : ℕ) → zeros + m ≡ 64 → x < 2 ^ m → 2 ^ m ≤ 2 * x + 1 → Fls x (64 - zeros)
from_length x zeros m total above reached =
    let same : 64 - zeros ≡ m = omega arith in
    rw same (record {
      value = highest_bit-unique 64 x m (omega arith) above (half_power m x reached);
      above = above;
      least = half_power m x reached;
      most = omega arith;
    })

pub returns : goal.returns
returns c =
    let found = leading_length 64 c.args.x c.ranges.x.fits in
    let fls : Fls c.args.x (64 - _) = from_length c.args.x _ found.0 found.1 found.2 found.3 in
    record { value = fls.value; above = fls.above; least = fls.least; most = fls.most }
