-- The steps that a change of a counter makes, and how often it misses.
use Rattle.std.specs.Prelude.{◌≡◌, ◌≢◌, ℕ, suc, ℤ, pos, List, [], ◌∷◌, ◌++◌, All}
use Rattle.vms_history.specs.Common.{Diffs, CounterId, CpuId, Mode, Shape, place_of, group_of, item_of}
use Rattle.vms_core.specs.declared.steps.Step.{Step}
use Rattle.vms_core.specs.declared.steps.Step.TheVariants.{LoadT, LoadD, Put, Miss, AddG, AddS}
use Rattle.vms_core.specs.Common.{entry, eight_zeros, carried_by}

-- the additions that carry an amount to the global values: none where it is 0
pub data Carries (shape : Shape) (k : CounterId) : ℤ → List Step → Type 0 where
  nothing : Carries shape k (pos 0) []
  amount : (z : ℤ) → z ≢ pos 0 →
      Carries shape k z (AddG k z ∷ AddS (record { number = item_of shape k.number }) z ∷ [])

-- the exchange of the list that was found, or after it was missed the exchange of eight zeros: the list that was put on
pub data Exchanges (k : CounterId) (w : Diffs) (t : ℕ) (delta : ℤ) (how : Mode) : Diffs → List Step → Type 0 where
  won : Exchanges k w t delta how w (Put k w t delta how ∷ [])
  missed : (zeros : Diffs) → zeros.values ≡ eight_zeros → Exchanges k w t delta how zeros
      (Miss (record { number = group_of k.number }) w ∷ Put k zeros t delta how ∷ [])

-- a change of a counter by the owner of a CPU, oldest step first: the threshold and the group are loaded, the list is
-- exchanged, and what the change carries is added
pub record IsChange (shape : Shape) (cpu : CpuId) (k : CounterId) (delta : ℤ) (how : Mode)
    (steps : List Step) : Type 0 where
  pub t : ℕ
  pub number : ℕ
  pub first : Diffs
  pub last : Diffs
  pub exchange : List Step
  pub additions : List Step
  pub exchanges : Exchanges k first t delta how last exchange
  pub carries : Carries shape k (carried_by how t (entry last.values k.number) delta) additions
  pub in_order : steps ≡ (LoadT (record { number = place_of shape k.number }) t number
      ∷ LoadD cpu (record { number = group_of k.number }) first ∷ exchange) ++ additions

-- no exchange of these steps lost
abbrev pub HasWon : Step → Type 0
HasWon (Miss j w) = ⊥
HasWon _ = Unit {0}

-- a change that met no other caller
pub record IsChangeAlone (shape : Shape) (cpu : CpuId) (k : CounterId) (delta : ℤ) (how : Mode)
    (steps : List Step) : Type 0 where
  pub change : IsChange shape cpu k delta how steps
  pub alone : All HasWon steps

-- how many exchanges of these steps lost
abbrev pub misses_after : Step → ℕ → ℕ
misses_after (Miss j w) n = suc n
misses_after _ n = n

abbrev pub miss_count : List Step → ℕ
miss_count [] = 0
miss_count (step ∷ rest) = misses_after step (miss_count rest)
