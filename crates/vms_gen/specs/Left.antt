-- What a source has not given yet.
use Rattle.std.specs.Prelude.{ℕ, List, [], Option, Some, None}
use Rattle.vms_gen.specs.Texts.{lines_after}
use Rattle.vms_gen.specs.declared.unmade.Unmade.{Unmade}

-- those of so many states after a state, and the last one, if the last one isn't made
abbrev pub lines_from : ℕ → ℕ → Option ℕ → List (List (List ℕ))
lines_from cpus x (Some lines) = lines_after cpus lines x
lines_from cpus x None = []

abbrev pub lines_left : Unmade → List (List (List ℕ))
lines_left unmade = lines_from unmade.cpus unmade.state unmade.lines

-- the bytes that a source has not given yet, and how many calls of it were made
pub record Ungiven : Type 0 where
  pub left : List ℕ
  pub calls : ℕ
