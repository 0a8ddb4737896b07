-- What the main pass makes: the step by which a pass begins, and the step by which one ends.
use Rattle.std.specs.Prelude.{◌≡◌, ℕ, suc, List, [], ◌∷◌, Option}
use Rattle.vms_history.specs.Common.{CpuId, Extends, own, Machine, IsLegal, begun_in, IsFree}
use Rattle.vms_history.specs.declared.events.Event.{Event}
use Rattle.vms_seats.specs.Passes.{Pass, IsLive}

-- the number of the pass that begins next
abbrev pub next_number : {F K S : Type 0} → Machine F K S → List (Event K) → ℕ
next_number machine seen = suc (begun_in machine.role seen)

-- the main pass may begin a pass that owns this CPU, or a control pass
pub record MayBeginPass {F K S : Type 0} (machine : Machine F K S) (main : Pass F K) (who : Option CpuId) : Type 0 where
  pub may_own : machine.MayOwn main.facts who
  pub free : IsFree machine.role main.seen who

-- what the pass has done lets it end
abbrev pub MayEndPass : {F K S : Type 0} → Machine F K S → Pass F K → Type 0
MayEndPass machine pass = machine.MayEnd pass.facts (own pass.seen pass.number)

-- the main pass made one step: what others had done before it, and that the history ended with it
pub record MainMakes {F K S : Type 0} (machine : Machine F K S) (facts : F) (later earlier : List (Event K))
    (step : K) : Type 0 where
  pub before : List (Event K)
  pub extends : Extends before earlier
  pub own_same : own before 0 ≡ own earlier 0
  pub newest : later ≡ record { caller = 0; step = step } ∷ before
  pub legal : IsLegal machine facts later

-- the pass knows more of its history, and is the same pass otherwise
pub record SeesMore {F K : Type 0} (new old : Pass F K) : Type 0 where
  pub table : new.table ≡ old.table
  pub facts : new.facts ≡ old.facts
  pub number : new.number ≡ old.number
  pub cpu : new.cpu ≡ old.cpu
  pub extends : Extends new.seen old.seen

-- the main pass began a pass by the step for that. This pass has made no step, and knows what the main pass knows
pub record HasBegun {F K S : Type 0} (machine : Machine F K S) (begins : ℕ → Option CpuId → K) (new old pass : Pass F K)
    (who : Option CpuId) : Type 0 where
  pub main : SeesMore new old
  pub made : MainMakes machine old.facts new.seen old.seen (begins (next_number machine old.seen) who)
  pub table : pass.table ≡ old.table
  pub facts : pass.facts ≡ old.facts
  pub number : pass.number ≡ next_number machine old.seen
  pub cpu : pass.cpu ≡ who
  pub seen : pass.seen ≡ new.seen
  pub live : IsLive machine pass
  pub no_steps : own pass.seen pass.number ≡ []

-- the main pass ended a pass by the step for that. What that pass had seen stood before it, and in what the main pass
-- has seen that pass has made the steps that it knew, and no others
pub record HasEnded {F K S : Type 0} (machine : Machine F K S) (ends : ℕ → K) (new old pass : Pass F K) : Type 0 where
  pub main : SeesMore new old
  pub made : MainMakes machine old.facts new.seen old.seen (ends pass.number)
  pub knew : Extends made.before pass.seen
  pub all_steps : own new.seen pass.number ≡ own pass.seen pass.number
