-- How a legal history goes on with a change that meets no other caller.
use Rattle.std.specs.Prelude.{◌≡◌, ◌≢◌, ℕ, ◌+◌, ◌≤◌, nat_eq, ◌&&◌, true, ℤ, List, if◌then◌else◌, Some, unsigned_abs}
use Rattle.vms_history.specs.Common.{CounterId, CpuId, Online, Mode, IsCpu, IsCounter, own, after, lives_in, owner_in}
use Rattle.vms_history.specs.Common.{most_volume}
use Rattle.vms_core.specs.declared.states.State.{State}
use Rattle.vms_core.specs.declared.steps.Facts.{Facts}
use Rattle.vms_core.specs.declared.steps.Step.{Step}
use Rattle.vms_calls.specs.Changes.{IsChangeAlone}
use Rattle.vms_core.specs.Common.{cpu_at, with_change, CarriesNothing, History, IsLegal, state_after, role, spent}

-- in this history pass p may change a counter of its CPU
pub record MayChange (facts : Facts) (h : History) (p : ℕ) (cpu : CpuId) (k : CounterId) (delta : ℤ) : Type 0 where
  pub legal : IsLegal facts h
  pub other_than_main : p ≢ 0
  pub lives : lives_in role h p ≡ true
  pub owner : owner_in role h p ≡ Some cpu
  pub cpu_known : IsCpu facts.layout cpu.number
  pub counter_known : IsCounter facts.layout k.number
  pub online : cpu_at (state_after facts h) cpu.number ≡ Online
  pub nothing_carried : CarriesNothing facts.layout (own h p)
  pub affordable : spent h cpu.number k.number + unsigned_abs delta ≤ most_volume

-- the history goes on with these steps of pass p, a change that meets no other caller, and then the state is `next`
pub record FollowsAlone (facts : Facts) (h : History) (p : ℕ) (cpu : CpuId) (k : CounterId) (delta : ℤ) (how : Mode)
    (steps : List Step) (next : State) : Type 0 where
  pub change : IsChangeAlone facts.layout cpu k delta how steps
  pub legal : IsLegal facts (after p steps h)
  pub state : state_after facts (after p steps h) ≡ next
  pub nothing_carried : CarriesNothing facts.layout (own (after p steps h) p)
  pub others : (q : ℕ) → q ≢ p → own (after p steps h) q ≡ own h q
  pub spends : (c l : ℕ) → spent (after p steps h) c l ≡
      (if nat_eq cpu.number c && nat_eq k.number l then unsigned_abs delta + spent h c l else spent h c l)

-- where pass p may change a counter, a legal history goes on with a change that meets no other caller
abbrev pub GoesOnWithChange : Type 0
GoesOnWithChange = (facts : Facts) (h : History) (p : ℕ) (cpu : CpuId) (k : CounterId) (delta : ℤ) (how : Mode) →
    MayChange facts h p cpu k delta → (steps : List Step) × FollowsAlone facts h p cpu k delta how steps
    (with_change facts.layout cpu.number k.number delta how (state_after facts h))
