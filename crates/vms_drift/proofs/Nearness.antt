-- For other crates too: a value that is within so many pages of a total tells how large the total is.
use Rattle.std.proofs.Common.{ℕ, ◌≤◌, ℤ, pos, negsuc, ◌-ℤ◌, arith, unsigned_abs}
use Rattle.std.proofs.lemmas.Int.{ints}
use Rattle.vms_drift.specs.Nearness.{IsNear}

pub near : (value total : ℤ) (pages : ℕ) → unsigned_abs (value -ℤ total) ≤ pages → IsNear value total pages
near (pos n) total pages within = record {
  signed = within;
  at_most = omega (arith, ints, within);
  at_least = λ some. omega (arith, ints, within);
}
near (negsuc n) total pages within = record {
  signed = within;
  at_most = omega (arith, ints, within);
  at_least = λ some. absurd (omega (arith, some));
}
