-- When a caller made the steps of a call, between an earlier history and a later one.
use Rattle.std.specs.Prelude.{◌≡◌, ℕ, List, [], ◌∷◌}
use Rattle.vms_history.specs.declared.events.Event.{Event}
use Rattle.vms_history.specs.Common.{Extends, own, after}
use Rattle.vms_pcpu_core.specs.declared.steps.PcpuFacts.{PcpuFacts}
use Rattle.vms_pcpu_core.specs.declared.steps.PcpuStep.{PcpuStep}
use Rattle.vms_pcpu_core.specs.Histories.{History, IsLegal}

-- a step of caller p
abbrev pub event : ℕ → PcpuStep → Event PcpuStep
event p step = record { caller = p; step = step }

-- a history went on from an earlier one, and caller p made these steps since, the oldest first; others made any. The
-- generic HasMade asks besides that p is a pass that lives in both, which the laws of single calls don't need
pub record MadeSteps (facts : PcpuFacts) (earlier later : History) (p : ℕ) (steps : List PcpuStep) : Type 0 where
  pub legal : IsLegal facts later
  pub goes_on : Extends later earlier
  pub made : own later p ≡ after p steps (own earlier p)

-- between the two, caller p made this step when `before` was the whole history
pub record MadeBetween (earlier later : History) (p : ℕ) (step : PcpuStep) (before : History) : Type 0 where
  pub since : Extends before earlier
  pub kept : Extends later (event p step ∷ before)

-- in a history caller p made these steps in a row, the oldest first, after these earlier ones: two moments part them
pub record MadeWithin (facts : PcpuFacts) (h : History) (p : ℕ) (before steps : List PcpuStep) : Type 0 where
  pub earlier : History
  pub later : History
  pub calls : MadeSteps facts earlier later p steps
  pub kept : Extends h later
  pub own_before : own earlier p ≡ after p before []
