-- What a whole history changed, and what each CPU spent on that.
use Rattle.std.specs.Prelude.{ℕ, ◌+◌, nat_eq, ◌&&◌, ℤ, pos, List, [], ◌∷◌, if◌then◌else◌, Option, Some, unsigned_abs}
use Rattle.vms_history.specs.Common.{CpuId, owner_in}
use Rattle.vms_history.specs.declared.events.Event.{Event}
use Rattle.vms_group_core.specs.declared.steps.GroupStep.{GroupStep}
use Rattle.vms_group_core.specs.declared.steps.GroupStep.TheVariants.{AddP}
use Rattle.vms_group_core.specs.Steps.{role}

-- what a step changes in a group, by this measure
abbrev pub changed : (ℤ → ℤ) → ℕ → GroupStep → ℤ
changed measure g (AddP x a) = if nat_eq x g then measure a else pos 0
changed measure g _ = pos 0

-- what a step of a pass that owns `who` spends of the volume of CPU c on group g
abbrev pub spent_by : Option CpuId → ℕ → ℕ → GroupStep → ℕ
spent_by (Some d) c g (AddP x a) = if nat_eq d.number c && nat_eq x g then unsigned_abs a else 0
spent_by _ c g _ = 0

-- the sizes of the amounts by which CPU c changed group g, in sum
abbrev pub spent : List (Event GroupStep) → ℕ → ℕ → ℕ
spent [] c g = 0
spent (e ∷ h) c g = spent_by (owner_in role h e.caller) c g e.step + spent h c g
