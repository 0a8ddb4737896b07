-- Which pass stands in which slot. There is a slot for each CPU, and after them one for the control pass.
use Rattle.std.specs.Prelude.{◌≡◌, ◌≢◌, ℕ, ◌+◌, ◌^◌, ◌<◌, ◌≤◌, nat_eq, true, List, [], ◌∷◌, length, if◌then◌else◌}
use Rattle.std.specs.Prelude.{Option, Some, None}
use Rattle.vms_history.specs.Common.{CpuId, Machine, IsLegal, Works, Begins, Ends, own, lives_in, owner_in, state_after}
use Rattle.vms_history.specs.declared.events.Event.{Event}

-- the slot of a pass that owns a CPU, or of the control pass
abbrev pub slot_of : ℕ → Option CpuId → ℕ
slot_of cpus (Some c) = c.number
slot_of cpus None = cpus

-- whose pass a slot is for
abbrev pub owner_of : ℕ → ℕ → Option CpuId
owner_of cpus slot = if nat_eq slot cpus then None else Some (record { number = slot })

-- the own events of the pass that a slot holds; none where it holds 0
abbrev pub held_events : {K : Type 0} → (ℕ → ℕ) → List (Event K) → ℕ → List (Event K)
held_events held h slot = if nat_eq (held slot) 0 then [] else own h (held slot)

-- a slot holds the number of the pass that lives and owns its CPU, or is the control pass, and 0 where there is none
pub record HoldPasses {F K S : Type 0} (machine : Machine F K S) (cpus : ℕ) (h : List (Event K))
    (held : ℕ → ℕ) : Type 0 where
  pub lives : (s : ℕ) → held s ≢ 0 → lives_in machine.role h (held s) ≡ true
  pub owner : (s : ℕ) → held s ≢ 0 → owner_in machine.role h (held s) ≡ owner_of cpus s
  pub holds : (q : ℕ) → lives_in machine.role h q ≡ true → held (slot_of cpus (owner_in machine.role h q)) ≡ q
  pub within : (q : ℕ) → lives_in machine.role h q ≡ true → slot_of cpus (owner_in machine.role h q) ≤ cpus

module _ {F K S : Type 0} (machine : Machine F K S) (facts : F) (cpus : ℕ) (h : List (Event K)) (held : ℕ → ℕ)
    (slot : ℕ) where
  -- after a legal history a pass stands in a slot
  pub record StandsIn (p : ℕ) : Type 0 where
    pub legal : IsLegal machine facts h
    pub hold : HoldPasses machine cpus h held
    pub here : held slot ≡ p
    pub given : p ≢ 0
    pub slot_in : slot ≤ cpus

  -- the pass may make a step that works
  pub record MayWork (p : ℕ) (step : K) : Type 0 where
    pub stands : StandsIn p
    pub works : machine.role step ≡ Works
    pub meets : machine.Meets facts h (state_after machine facts h) p step
    -- a machine word counts the events
    pub short : length h + 1 < 2 ^ 64

  -- the main pass begins a pass, which the free slot then holds
  pub record BeginsIn (q : ℕ) (step : K) (next : ℕ → ℕ) : Type 0 where
    pub hold : HoldPasses machine cpus h held
    pub begins : machine.role step ≡ Begins q (owner_of cpus slot)
    pub legal : IsLegal machine facts (record { caller = 0; step = step } ∷ h)
    pub free : held slot ≡ 0
    pub slot_in : slot ≤ cpus
    pub fills : (s : ℕ) → next s ≡ (if nat_eq slot s then q else held s)

  -- the main pass ends the pass, and the slot is free then
  pub record EndsIn (q : ℕ) (step : K) (next : ℕ → ℕ) : Type 0 where
    pub stands : StandsIn q
    pub ends : machine.role step ≡ Ends q
    pub legal : IsLegal machine facts (record { caller = 0; step = step } ∷ h)
    pub leaves : (s : ℕ) → next s ≡ (if nat_eq slot s then 0 else held s)
