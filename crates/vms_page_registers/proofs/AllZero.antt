-- Whether numbers are all 0, as a loop tells that ends at the first that is not.
use Rattle.std.proofs.Common.{◌≡◌, ◌≢◌, ℕ, ◌<◌, ℤ, pos, false}
use Rattle.std.specs.Prelude.{◌↔◌, IsTrue}

pub some-left : (value : ℕ → ℤ) (count n : ℕ) → n < count → value n ≢ pos 0
    → IsTrue false ↔ ((k : ℕ) → k < count → value k ≡ pos 0)
some-left value count n within other = (λ yes. (cc), λ all. absurd (other (all n within)))
