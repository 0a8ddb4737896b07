-- The acts of the control lane, by the tables that they concern.
use Rattle.std.proofs.Common.{◌≡◌, [], None, refl}
use Rattle.vms_world.specs.Common.{PcpuFacts, Act, Control, PcpuSteps, event_call}
use Rattle.vms_text.specs.declared.acts.Act.TheVariants.{Dead}

-- an act that makes no call on event counters makes none on percpu counters
pub control-no_counters : (facts : PcpuFacts) (a : Act) → event_call Control a ≡ None → PcpuSteps facts Control a []
control-no_counters facts (Dead d) none = absurd cc
control-no_counters facts _ none = refl
