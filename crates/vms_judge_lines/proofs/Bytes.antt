-- Lists of bytes.
use Rattle.std.proofs.Common.{◌≡◌, ◌≢◌, ℕ, ◌<◌, ℤ, pos, List, length, ⊎_elim, get_or-set_same, get_or-set_other}
use Rattle.std.proofs.Math.ListN.{set}
use Rattle.std.proofs.lemmas.Bool.{cases_eq}
use Rattle.vms_history.specs.Common.{AreBytes, IsByte}

-- a list of bytes stays one where a byte is written
pub AreBytes-set : (values : List ℤ) (n : ℕ) (v : ℤ) → n < length values → IsByte v → AreBytes values
    → AreBytes (set values n v)
AreBytes-set values n v within here others m = ⊎_elim
    (λ (same : m ≡ n). rw (same, get_or-set_same values n v (pos 0) within) here)
    (λ (other : m ≢ n). rw (get_or-set_other values n m v (pos 0) other) (others m))
    (cases_eq m n)
