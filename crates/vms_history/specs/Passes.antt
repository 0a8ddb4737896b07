-- Which passes live, and which CPU each owns. All of it is a function of the main pass's own events.
use Rattle.std.specs.Prelude.{◌≡◌, ℕ, suc, nat_eq, Bool, true, false, List, [], ◌∷◌, if◌then◌else◌, Option, None}
use Rattle.vms_base.specs.declared.ids.CpuId.{CpuId}
use Rattle.vms_history.specs.declared.events.Event.{Event}
use Rattle.vms_history.specs.Events.{own}

-- what a step does to the passes: it works, or begins pass q, which owns a CPU or is the control pass, or ends pass q
pub data Role : Type 0 where
  Works : Role
  Begins : ℕ → Option CpuId → Role
  Ends : ℕ → Role

-- how many passes the main pass's events have begun
abbrev pub begun_after : Role → ℕ → ℕ
begun_after (Begins q c) n = suc n
begun_after _ n = n

abbrev pub begun : {K : Type 0} → (K → Role) → List (Event K) → ℕ
begun role [] = 0
begun role (e ∷ h) = begun_after (role e.step) (begun role h)

-- whether pass q has begun and not ended
abbrev pub lives_after : Role → ℕ → Bool → Bool
lives_after (Begins r c) q before = if nat_eq r q then true else before
lives_after (Ends r) q before = if nat_eq r q then false else before
lives_after Works q before = before

abbrev pub lives : {K : Type 0} → (K → Role) → List (Event K) → ℕ → Bool
lives role [] q = false
lives role (e ∷ h) q = lives_after (role e.step) q (lives role h q)

-- the CPU that pass q owns; a control pass and the main pass own none
abbrev pub owner_after : Role → ℕ → Option CpuId → Option CpuId
owner_after (Begins r c) q before = if nat_eq r q then c else before
owner_after _ q before = before

abbrev pub owner : {K : Type 0} → (K → Role) → List (Event K) → ℕ → Option CpuId
owner role [] q = None
owner role (e ∷ h) q = owner_after (role e.step) q (owner role h q)

-- the same of a whole history, in which the main pass alone begins and ends passes
abbrev pub begun_in : {K : Type 0} → (K → Role) → List (Event K) → ℕ
begun_in role h = begun role (own h 0)

abbrev pub lives_in : {K : Type 0} → (K → Role) → List (Event K) → ℕ → Bool
lives_in role h q = lives role (own h 0) q

abbrev pub owner_in : {K : Type 0} → (K → Role) → List (Event K) → ℕ → Option CpuId
owner_in role h q = owner role (own h 0) q

-- no pass that lives owns this CPU, or for None no control pass lives
abbrev pub IsFree : {K : Type 0} → (K → Role) → List (Event K) → Option CpuId → Type 0
IsFree role h who = (q : ℕ) → lives_in role h q ≡ true → owner_in role h q ≡ who → ⊥
