-- Numbers that pass a test.
use Rattle.std.specs.Prelude.{ℕ, zero, suc, Bool, List, [], ◌∷◌, if◌then◌else◌}

-- those among n numbers from number k on, in order
abbrev pub kept_from : (ℕ → Bool) → ℕ → ℕ → List ℕ
kept_from test k zero = []
kept_from test k (suc n) = if test k then k ∷ kept_from test (suc k) n else kept_from test (suc k) n
