-- Which CPUs passes that live own in a table, as its main pass knows it, and what is kept for a CPU while none does.
use Rattle.std.specs.Prelude.{◌≡◌, ◌≢◌, ℕ, ◌<◌, Bool, true, false, List, ◌∷◌, length, slice_index_or, Option, Some}
use Rattle.std.specs.Prelude.{None}
use Rattle.vms_world.specs.Common.{CpuId, IsFree, Machine, Role, lives_in, owner_in, Event}
use Rattle.vms_history.specs.Legal.{IsLegal}
use Rattle.vms_seats.specs.Common.{IsFrom, Pass, Shared}

-- a pass that lives owns this CPU; for None, a control pass lives
pub record IsOut {K : Type 0} (role : K → Role) (seen : List (Event K)) (who : Option CpuId) : Type 0 where
  pub number : ℕ
  pub lives : lives_in role seen number ≡ true
  pub owns : owner_in role seen number ≡ who

-- whether the control pass may begin, or lives
abbrev pub KnowsControl : {K : Type 0} → (K → Role) → List (Event K) → Bool → Type 0
KnowsControl role seen true = IsFree role seen None
KnowsControl role seen false = IsOut role seen None

-- no pass owns this CPU, and these volumes hold what the CPU has spent
pub record IsAtHome {F K S V : Type 0} (machine : Machine F K S) (Holds : F → List (Event K) → CpuId → V → Type 0)
    (facts : F) (seen : List (Event K)) (cpu : CpuId) (volumes : V) : Type 0 where
  pub free : IsFree machine.role seen (Some cpu)
  pub holds : Holds facts seen cpu volumes

-- what is known of a CPU by its volumes: they are kept while no pass that lives owns it
abbrev pub KnowsOwner : {F K S V : Type 0} → Machine F K S → (F → List (Event K) → CpuId → V → Type 0) → F
    → List (Event K) → CpuId → Option V → Type 0
KnowsOwner machine Holds facts seen cpu (Some volumes) = IsAtHome machine Holds facts seen cpu volumes
KnowsOwner machine Holds facts seen cpu None = IsOut machine.role seen (Some cpu)

-- what the main pass of these words knows: of each CPU whether a pass owns it, and whether a control pass lives
pub record KnowsPasses {F K S V : Type 0} (machine : Machine F K S) (Holds : F → List (Event K) → CpuId → V → Type 0)
    (words : Shared F) (main : Pass F K) (volumes : List (Option V)) (control : Bool) : Type 0 where
  pub of : IsFrom main words
  pub legal : IsLegal machine main.facts main.seen
  pub knows_control : KnowsControl machine.role main.seen control
  pub each : (cpu : CpuId) → cpu.number < length volumes →
      KnowsOwner machine Holds main.facts main.seen cpu (slice_index_or volumes cpu.number None)

-- what holds of a CPU's volumes goes on to hold after a step of a pass that doesn't own it
abbrev pub GoesOnWithOthers : {F K S V : Type 0} → Machine F K S → (F → List (Event K) → CpuId → V → Type 0) → Type 0
GoesOnWithOthers {F} {K} {S} {V} machine Holds = (facts : F) (cpu : CpuId) (volumes : V) (e : Event K)
    (h : List (Event K)) → owner_in machine.role h e.caller ≢ Some cpu → Holds facts h cpu volumes
    → Holds facts (e ∷ h) cpu volumes
