-- How far a command read its source, and what the last call brought.
use Rattle.std.specs.Prelude.{ℕ, ◌+◌, ◌≤◌, List, Option}
use Rattle.std.specs.Io.KnownBytes.{Consumes, IsAtEnd}

-- what the calls of a source before the last one brought, and the piece that the last one brought: at most one call
-- came after `found`. That this is the source as the last call found it rests on the caller, which is generic in it.
-- Where no call was made, the piece is empty
pub record LastCall {S : Type 0} (left : S → Option (List ℕ)) (calls : S → ℕ) (src src' : S) (before piece : List ℕ)
    : Type 0 where
  pub found : S
  pub up_to : Consumes (left src) (left found) before
  pub brought : Consumes (left found) (left src') piece
  pub once : calls src' ≤ calls found + 1

-- how far a command read: whether to the end, and what the calls before the last one brought and what that one did
pub record Reading : Type 1 where
  pub at_end : Type 0
  pub last_call : List ℕ → List ℕ → Type 0

-- the reading of a source between two moments
abbrev pub reading_of : {S : Type 0} → (S → Option (List ℕ)) → (S → ℕ) → S → S → Reading
reading_of left calls src src' = record { at_end = IsAtEnd (left src'); last_call = LastCall left calls src src' }
