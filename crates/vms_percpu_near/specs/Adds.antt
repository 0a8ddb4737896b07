-- The histories in which nobody adds to a local part while it carries something of the counter. Calls make such ones.
use Rattle.std.specs.Prelude.{◌≡◌, pos, List, [], ◌∷◌}
use Rattle.vms_history.specs.Common.{own}
use Rattle.vms_history.specs.declared.events.Event.{Event}
use Rattle.vms_pcpu_core.specs.declared.steps.PcpuStep.{PcpuStep}
use Rattle.vms_pcpu_core.specs.declared.steps.PcpuStep.TheVariants.{AddL}
use Rattle.vms_pcpu_core.specs.Common.{History, carried}

-- a caller with these own events before carries nothing of a counter when it adds to its local part
abbrev pub AddCarriesNothing : List (Event PcpuStep) → PcpuStep → Type 0
AddCarriesNothing mine (AddL j a) = carried j.number mine ≡ pos 0
AddCarriesNothing mine _ = Unit {0}

-- every addition to a local part is made by a caller that carries nothing of its counter
abbrev pub AddsCarryNothing : History → Type 0
AddsCarryNothing [] = Unit {0}
AddsCarryNothing (e ∷ h) = AddCarriesNothing (own h e.caller) e.step × AddsCarryNothing h

-- so are those of one caller, by its own events alone
abbrev pub OwnAddsCarryNothing : List (Event PcpuStep) → Type 0
OwnAddsCarryNothing [] = Unit {0}
OwnAddsCarryNothing (e ∷ mine) = AddCarriesNothing mine e.step × OwnAddsCarryNothing mine
