-- For other crates too: what a change leaves and carries once it passes the threshold.
use Rattle.std.proofs.Common.{◌≡◌, ℕ, ◌<◌, false, ℤ, ◌+ℤ◌, unsigned_abs, arith, nat_le}
use Rattle.std.proofs.lemmas.Bool.Decides.{nat_tests}
use Rattle.std.specs.Prelude.{neg_ℤ}
use Rattle.vms_history.specs.Common.{Mode}
use Rattle.vms_core.specs.Common.{overstep_of, differential_after, carried_by}

module _ (how : Mode) (t : ℕ) (found delta : ℤ) (past : t < unsigned_abs (found +ℤ delta)) where
  past_threshold : nat_le (unsigned_abs (found +ℤ delta)) t ≡ false
  past_threshold = grind (arith, nat_tests)

  pub differential_after-past : differential_after how t found delta ≡ neg_ℤ (overstep_of how t)
  differential_after-past = rw past_threshold

  pub carried_by-past : carried_by how t found delta ≡ (found +ℤ delta) +ℤ overstep_of how t
  carried_by-past = rw past_threshold
