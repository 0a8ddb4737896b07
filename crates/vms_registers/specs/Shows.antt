-- What registers show of a history.
use Rattle.std.specs.Prelude.{◌≡◌, ℕ, ◌+◌, List, length, slice_index_or}
use Rattle.vms_history.specs.declared.events.Event.{Event}
use Rattle.vms_history.specs.Common.{Machine, IsLegal, begun_in}
use Rattle.vms_registers.specs.Slots.{HoldPasses}

-- how many passes have begun, and by slot the number of its pass, or 0
pub record PassParts : Type 0 where
  pub begun : ℕ
  pub holders : List ℕ

-- registers: the passes, and what the table itself keeps
pub record Parts (R : Type 0) : Type 0 where
  pub passes : PassParts
  pub own : R

-- the number of the pass that a slot holds, or 0
abbrev pub held_by : List ℕ → ℕ → ℕ
held_by holders slot = slice_index_or holders slot 0

-- they are what a legal history made
module _ {F K S R : Type 0} (machine : Machine F K S) (cpus_of : F → ℕ)
    (Own : F → List (Event K) → (ℕ → ℕ) → R → Type 0) (facts : F) where
  pub record Shows (h : List (Event K)) (r : Parts R) : Type 0 where
    pub legal : IsLegal machine facts h
    pub begun : begun_in machine.role h ≡ r.passes.begun
    pub one_each : length r.passes.holders ≡ cpus_of facts + 1
    pub hold : HoldPasses machine (cpus_of facts) h (held_by r.passes.holders)
    pub own : Own facts h (held_by r.passes.holders) r.own
