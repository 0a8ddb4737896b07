-- Which lane it is that passes may make a line of.
use Rattle.std.proofs.Common.{◌≡◌, Some, refl, sym, ap, ◌∙◌}
use Rattle.vms_world.specs.Common.{CpuId, Lane, Cpu, Control}
use Rattle.vms_burial.specs.declared.passes.ControlPasses.{ControlPasses}
use Rattle.vms_tables.specs.declared.passes.CpuPasses.{CpuPasses}
use Rattle.vms_tables.specs.declared.tables.Tables.{Tables}
use Rattle.vms_lane.specs.declared.passes.LanePasses.TheVariants.{Cpu as OfCpu, Control as OfControl}
use Rattle.vms_lane.specs.Common.{AreReadyFor}

-- that of the CPU that they own
pub lane-of_cpu : (tables : Tables) (lane : Lane) (passes : CpuPasses) (c : CpuId)
    → AreReadyFor tables lane (OfCpu passes) → passes.page.pass.cpu ≡ Some c → lane ≡ Cpu c
lane-of_cpu tables (Cpu d) passes c ready owns =
    let both : Some d ≡ Some c = sym ready.owner.pages ∙ owns in
    let known : d ≡ c = cc in
    ap (λ (e : CpuId). let lane : Lane = Cpu e in lane) known
lane-of_cpu tables Control passes c ready owns = absurd ready

-- or the control lane
pub lane-of_control : (tables : Tables) (lane : Lane) (passes : ControlPasses)
    → AreReadyFor tables lane (OfControl passes) → lane ≡ Control
lane-of_control tables (Cpu d) passes ready = absurd ready
lane-of_control tables Control passes ready = refl
