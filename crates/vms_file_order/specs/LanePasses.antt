-- The passes of lanes: the steps that begin and end them, their numbers, and which of them may begin.
use Rattle.std.specs.Prelude.{◌≡◌, ℕ, suc, false, List, [], ◌∷◌, All, if◌then◌else◌, Option}
use Rattle.vms_world.specs.Common.{CpuId, Event, after, Machine, Role, Ends, Lane, is_lane, is_among, owner_of}
use Rattle.vms_history.specs.Passes.Role.{Begins}

-- the steps of a table that begin and end pass q
pub record PassSteps (K : Type 0) (role : K → Role) : Type 0 where
  pub begin : ℕ → Option CpuId → K
  pub end : ℕ → K
  pub begins : (q : ℕ) (who : Option CpuId) → role (begin q who) ≡ Begins q who
  pub ends : (q : ℕ) → role (end q) ≡ Ends q

-- the number of the pass of a lane: 1 for the first of these lanes, 2 for the next
abbrev pub pass_of : List Lane → Lane → ℕ
pass_of [] lane = 0
pass_of (l ∷ ls) lane = if is_lane l lane then 1 else suc (pass_of ls lane)

-- each of these lanes stands once
abbrev pub StandOnce : List Lane → Type 0
StandOnce [] = Unit {0}
StandOnce (l ∷ ls) = (is_among l ls ≡ false) × StandOnce ls

-- a table lets passes own what the passes of these lanes own
abbrev pub MayOwnEach : {F K S : Type 0} → Machine F K S → F → List Lane → Type 0
MayOwnEach machine facts lanes = All (λ lane. machine.MayOwn facts (owner_of lane)) lanes

module _ {K : Type 0} {role : K → Role} (passes : PassSteps K role) where
  -- the steps that begin a pass for each of these lanes, the first under this number
  abbrev pub begins_from : ℕ → List Lane → List K
  begins_from n [] = []
  begins_from n (lane ∷ lanes) = passes.begin n (owner_of lane) ∷ begins_from (suc n) lanes

  -- the steps that end the passes of these lanes, the first under this number
  abbrev pub ends_from : ℕ → List Lane → List K
  ends_from n [] = []
  ends_from n (lane ∷ lanes) = passes.end n ∷ ends_from (suc n) lanes

  -- the opening of a phase: the passes of these lanes begin
  abbrev pub opening_of : List Lane → List (Event K)
  opening_of lanes = after 0 (begins_from 1 lanes) []

  -- the closing: after this history they end in the same order
  abbrev pub closing_of : List Lane → List (Event K) → List (Event K)
  closing_of lanes h = after 0 (ends_from 1 lanes) h
