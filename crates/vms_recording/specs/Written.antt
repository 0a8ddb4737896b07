-- What is written of bytes that wait.
use Rattle.std.specs.Prelude.{◌≡◌, ℕ, ◌^◌, List, ◌++◌, Option}
use Rattle.std.specs.Io.KnownBytes.{Appends}

-- the most bytes that wait between two lines of a phase: 64 KiB
abbrev pub most_waiting : ℕ
most_waiting = 2 ^ 16

-- the front of what waited was written, and the rest is this
pub record WritesFront (waiting : List ℕ) (held held' : Option (List ℕ)) (is_rest : List ℕ → Type 0) : Type 0 where
  pub moved : List ℕ
  pub rest : List ℕ
  pub parts : waiting ≡ moved ++ rest
  pub appends : Appends held held' moved
  pub kept : is_rest rest
