-- What a buffer gets from a source.
use Rattle.std.specs.Prelude.{◌≡◌, ◌≢◌, ℕ, ◌-◌, ◌<◌, ◌≤◌, max, List, [], ◌∷◌, ◌++◌, length, take, drop, slice_index_or}
use Rattle.std.specs.Prelude.{Option, Contains}
use Rattle.std.specs.Io.KnownBytes.{Consumes, IsAtEnd}

-- the room of a buffer holds what was read, and never falls below 64 KiB
pub record Roomy (held room : ℕ) : Type 0 where
  pub within : held ≤ room
  pub least : 65536 ≤ room

-- a part of what is held was searched, and no newline is among it
pub record Searched (room : List ℕ) (held searched : ℕ) : Type 0 where
  pub part : searched ≤ held
  pub none : (k : ℕ) → k < searched → slice_index_or room k 10 ≢ 10

-- a buffer got n bytes more: the first n that were left, and none only at the end
pub record Gets (held held' : List ℕ) (left left' : Option (List ℕ)) (n : ℕ) : Type 0 where
  pub taken : List ℕ
  pub count : length taken ≡ n
  pub grows : held' ≡ held ++ taken
  pub consumes : Consumes left left' taken
  pub ends : n ≡ 0 → IsAtEnd left'
  pub bounded : n ≤ max 65536 (length held)

-- the first n bytes are whole lines: they end with a newline, or are none, and no newline stands after them
pub record WholeLines (bytes : List ℕ) (n : ℕ) : Type 0 where
  pub within : n ≤ length bytes
  pub ends : 0 < n → take n bytes ≡ take (n - 1) bytes ++ 10 ∷ []
  pub after : ¬ Contains (drop n bytes) 10
