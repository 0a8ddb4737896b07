-- What a table says of its steps, and which histories are legal.
use Rattle.std.specs.Prelude.{◌≡◌, ◌≢◌, ℕ, suc, true, false, List, [], ◌∷◌, Option}
use Rattle.vms_base.specs.declared.ids.CpuId.{CpuId}
use Rattle.vms_history.specs.declared.events.Event.{Event}
use Rattle.vms_history.specs.Events.{Extends, own}
use Rattle.vms_history.specs.Passes.{Role, begun_in, lives_in, owner_in, IsFree}
use Rattle.vms_history.specs.Passes.Role.{Works, Begins, Ends}

-- what a table has to say of its facts F, its steps K and its states S
pub record Machine (F K S : Type 0) : Type 1 where
  -- what a step does to the passes
  pub role : K → Role
  -- the state that a history begins with
  pub base : F → S
  -- the state after a step, which may depend on the CPU that the acting pass owns
  pub effect : F → Option CpuId → K → S → S
  -- what the facts have to be
  pub CanBegin : F → Type 0
  -- whose pass may begin: one that owns this CPU, or a control pass
  pub MayOwn : F → Option CpuId → Type 0
  -- what the own events of a pass that ends have to be
  pub MayEnd : F → List (Event K) → Type 0
  -- the condition of a step that works: the facts, the history and the state before it, the caller, the step
  pub Meets : F → List (Event K) → S → ℕ → K → Type 0

-- a step that begins or ends a pass leaves the state, and its condition asks nothing beyond the rules of the passes
pub record IsQuiet {F K S : Type 0} (machine : Machine F K S) : Type 0 where
  pub leaves : (facts : F) (who : Option CpuId) (step : K) (s : S) → machine.role step ≢ Works →
      machine.effect facts who step s ≡ s
  pub asks_nothing : (facts : F) (h : List (Event K)) (s : S) (p : ℕ) (step : K) → machine.role step ≢ Works →
      machine.Meets facts h s p step

-- who may make a step: the main pass alone begins and ends passes, each new one under the next number, and the
-- others act while they live
abbrev pub Acts : {F K S : Type 0} → Machine F K S → F → List (Event K) → ℕ → Role → Type 0
Acts machine facts h p Works = (p ≢ 0) × (lives_in machine.role h p ≡ true)
Acts machine facts h p (Begins q who) =
    (p ≡ 0) × (q ≡ suc (begun_in machine.role h)) × machine.MayOwn facts who × IsFree machine.role h who
Acts machine facts h p (Ends q) = (p ≡ 0) × (lives_in machine.role h q ≡ true) × machine.MayEnd facts (own h q)

-- the state after the events of a history
abbrev pub state_after : {F K S : Type 0} → Machine F K S → F → List (Event K) → S
state_after machine facts [] = machine.base facts
state_after machine facts (e ∷ h) =
    machine.effect facts (owner_in machine.role h e.caller) e.step (state_after machine facts h)

-- each event was made by a caller that may act, and its condition held in the state before it
abbrev pub IsLegal : {F K S : Type 0} → Machine F K S → F → List (Event K) → Type 0
IsLegal machine facts [] = machine.CanBegin facts
IsLegal machine facts (e ∷ h) = IsLegal machine facts h × Acts machine facts h e.caller (machine.role e.step)
    × machine.Meets facts h (state_after machine facts h) e.caller e.step

-- a legal history in which every pass has ended
pub record IsComplete {F K S : Type 0} (machine : Machine F K S) (facts : F) (h : List (Event K)) : Type 0 where
  pub legal : IsLegal machine facts h
  pub ended : (q : ℕ) → lives_in machine.role h q ≡ false

-- caller p made e in the history h, when the part before it was the whole history
pub record MadeAt {F K S : Type 0} (machine : Machine F K S) (facts : F) (h : List (Event K)) (p : ℕ)
    (e : Event K) (before : List (Event K)) : Type 0 where
  pub mine : e.caller ≡ p
  pub later : Extends h (e ∷ before)
  pub legal : IsLegal machine facts (e ∷ before)
