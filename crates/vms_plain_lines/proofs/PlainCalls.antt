-- The calls on plain tables, as the acts of lines make them.
use Rattle.std.proofs.Common.{◌≡◌, ℕ, true, List, Option, Some, ap, subst}
use Rattle.vms_world.specs.Common.{Header, CpuId, ZoneSize, Item, Lane, Control, Cpu, lane_owns, owner_of}
use Rattle.vms_answers.specs.declared.answers.Answer.{Answer}
use Rattle.vms_plain_lines.specs.Common.{GoesOnIf, PlainStates}

-- what goes on from the parts of the tables goes on from the tables
module _ (header : Header) (pressure normal : ZoneSize → ℕ → ℕ → Type 0) (item : Item) (Room : List Item → Type 0)
    (inside now : PlainStates) (same : inside ≡ now) (answer : Option Answer) where
  pub GoesOnIf-inside : (next : PlainStates) → GoesOnIf header pressure normal item Room inside next answer
      → GoesOnIf header pressure normal item Room now next answer
  GoesOnIf-inside next goes =
      subst (λ (s : PlainStates). GoesOnIf header pressure normal item Room s next answer) same goes
