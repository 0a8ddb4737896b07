-- What a verdict says of facts and events.
use Rattle.std.specs.Prelude.{◌≡◌, ℕ, ◌+◌, ◌<◌, true, List, length, reverse, take}
use Rattle.vms_history.specs.declared.events.Event.{Event}
use Rattle.vms_history.specs.Common.{Machine, IsLegal, IsComplete, lives_in}
use Rattle.vms_judge.specs.declared.verdicts.Verdict.{Verdict}
use Rattle.vms_judge.specs.declared.verdicts.Verdict.TheVariants.{NoBase, Illegal, Open, Complete}

-- event n of a list, which is oldest first, is the first that isn't legal
pub record IsFirstIllegal {F K S : Type 0} (machine : Machine F K S) (facts : F) (events : List (Event K))
    (n : ℕ) : Type 0 where
  pub within : n < length events
  pub before : IsLegal machine facts (reverse (take n events))
  pub refused : ¬ IsLegal machine facts (reverse (take (n + 1) events))

-- a legal history in which a pass lives
pub record IsOpen {F K S : Type 0} (machine : Machine F K S) (facts : F) (h : List (Event K)) : Type 0 where
  pub legal : IsLegal machine facts h
  pub alive : (q : ℕ) × (lives_in machine.role h q ≡ true)

-- what each verdict says of events that stand the oldest first
abbrev pub IsVerdict : {F K S : Type 0} → Machine F K S → F → List (Event K) → Verdict → Type 0
IsVerdict machine facts events NoBase = ¬ machine.CanBegin facts
IsVerdict machine facts events (Illegal n) = IsFirstIllegal machine facts events n
IsVerdict machine facts events Open = IsOpen machine facts (reverse events)
IsVerdict machine facts events Complete = IsComplete machine facts (reverse events)
