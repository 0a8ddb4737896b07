-- What the acts of the control lane ask of what its passes have seen, and what they leave of it.
use Rattle.std.specs.Prelude.{◌≡◌, ℕ, ◌+◌, ◌*◌, ◌≤◌, List, [], ◌∷◌, length}
use Rattle.vms_world.specs.Common.{CpuState, Facts, cpu_at, most_sets, state_past, Act, Control}
use Rattle.vms_base.specs.declared.kinds.CpuState.TheVariants.{Dead as IsDead}
use Rattle.vms_core.specs.Pages.{History, state_after}
use Rattle.vms_text.specs.declared.acts.Act.TheVariants.{Dead}
use Rattle.vms_text.specs.declared.acts.Line.TheVariants.{Lane}
use Rattle.vms_words.specs.Common.{largest_sets}

-- a CPU that an act buries is dead, where the CPUs are in these states
abbrev pub BuriesTheDead : (ℕ → CpuState) → Act → Type 0
BuriesTheDead state (Dead c) = state c.number ≡ IsDead
BuriesTheDead state _ = Unit {0}

-- so it is with each of these acts, one after another: who was buried is absent from then on
abbrev pub BuryTheDead : (ℕ → CpuState) → List Act → Type 0
BuryTheDead state [] = Unit {0}
BuryTheDead state (act ∷ acts) =
    BuriesTheDead state act × BuryTheDead (λ c. state_past c (Lane Control act) (state c)) acts

-- the control passes may make these acts one after another where this history was seen of the page counters: a CPU that
-- is buried is dead then, and each act may set a threshold or a mark twice
pub record MayControl (facts : Facts) (acts : List Act) (h : History) : Type 0 where
  pub buries : BuryTheDead (cpu_at (state_after facts h)) acts
  pub sets : 2 * length acts + largest_sets facts.layout (state_after facts h) ≤ most_sets

-- no threshold and no mark was set more than twice since
abbrev pub SetsTwice : Facts → History → History → Type 0
SetsTwice facts later earlier =
    largest_sets facts.layout (state_after facts later) ≤ 2 + largest_sets facts.layout (state_after facts earlier)

-- what an act of the control lane leaves of what was seen: it makes absent whom it buries and no other
pub record HasControlled (facts : Facts) (act : Act) (later earlier : History) : Type 0 where
  pub sets : SetsTwice facts later earlier
  pub cpus : (c : ℕ) → cpu_at (state_after facts later) c
      ≡ state_past c (Lane Control act) (cpu_at (state_after facts earlier) c)
