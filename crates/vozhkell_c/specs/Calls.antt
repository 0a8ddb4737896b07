-- What a function makes of what variables of C hold, as its status tells.
use Rattle.std.specs.Prelude.{◌≡◌, ℤ, Option, Some, None, Result, Ok, Err}
use Rattle.vozhkell_c.specs.Statuses.{null, status_of}

-- what a result pointer shows: the value, or what it showed before
abbrev pub shown : {V W E : Type 0} → (V → W) → Result V E → W → W
shown show (Ok value) before = show value
shown show (Err error) before = before

-- a call on what a variable holds: the status tells its result. Where the variable holds nothing, nothing changes
abbrev pub Calls : {A V E : Type 0} → (E → ℤ) → (A → A → Result V E → Type 0) → Option A → Option A → ℤ → Type 0
Calls cause IsMade new None status = (status ≡ null) × (new ≡ None)
Calls cause IsMade None (Some old) status = ⊥
Calls {A} {V} {E} cause IsMade (Some new) (Some old) status =
    (result : Result V E) × (status ≡ status_of cause result) × IsMade new old result

-- such a call that shows its value at a result pointer
abbrev pub Tells : {A V W E : Type 0} → (E → ℤ) → (V → W) → (A → A → Result V E → Type 0)
    → Option A → Option A → W → W → ℤ → Type 0
Tells cause show IsMade new None after before status = (status ≡ null) × (new ≡ None) × (after ≡ before)
Tells cause show IsMade None (Some old) after before status = ⊥
Tells {A} {V} {W} {E} cause show IsMade (Some new) (Some old) after before status =
    (result : Result V E) × (status ≡ status_of cause result) × (after ≡ shown show result before)
    × IsMade new old result
