-- For other crates too: page counters of a start have room for what a boundary line makes of them.
use Rattle.std.proofs.Common.{◌≡◌, ℕ, ◌^◌, ◌<◌, ◌≤◌, length, sym, subst}
use Rattle.std.specs.Prelude.{Ok}
use Rattle.vms_text.specs.declared.acts.Boundary.{Boundary as BoundaryOf}
use Rattle.vms_text.specs.declared.acts.Line.TheVariants.{Boundary}
use Rattle.vms_world.specs.Common.{CpuId, Header, IsCpu, IsLineOf, IsWorldOf, MayCross, MayRefresh, Start, State}
use Rattle.vms_world.specs.Common.{allowed_from, count_online, with_cpu}
use Rattle.vms_base.specs.declared.kinds.CpuState.TheVariants.{Online as IsOnline}
use Rattle.vms_world.proofs.BroughtUp.{MayRefresh-up}
use Rattle.vms_world.proofs.Common.{online-least, online-most}
use Rattle.vms_file_order.proofs.Common.{MayCross-allowed}
use Rattle.vms_hotplug.specs.Common.{IsSmallState}
use Rattle.vms_written_states.specs.PageStarts.{IsPageStart, world_with}

module _ (header : Header) (start : Start) (s : State) (is : IsPageStart header start s) where
  pub IsWorldOf-page : IsWorldOf header (world_with header is.volumes s)
  IsWorldOf-page = is.is.world

  pub IsSmallState-page : IsSmallState header.layout (2 ^ 60) s
  IsSmallState-page =
      let opening = is.is.world.page_base.opening in
      record {
        shaped = opening.shaped;
        diffs = opening.diffs;
        values = opening.values;
        systems = opening.systems;
      }

  pub MayCross-page : (b : BoundaryOf) → IsLineOf header (Boundary b)
      → allowed_from header start (Boundary b) ≡ Ok (Boundary b) → MayCross header.layout s b
  MayCross-page b known allowed = MayCross-allowed header start (world_with header is.volumes s) is.is.states b known
      allowed

  module _ (c : CpuId) (c_in : IsCpu header.layout c.number) where
    pub MayRefresh-page : MayRefresh header.layout (with_cpu s c.number IsOnline)
    MayRefresh-page = MayRefresh-up header (world_with header is.volumes s) c.number is.is.world c_in

    pub online-least-page : 1 ≤ count_online (with_cpu s c.number IsOnline).cpu
    online-least-page = online-least header (world_with header is.volumes s) c.number is.is.world c_in

    pub online-most-page : count_online (with_cpu s c.number IsOnline).cpu ≤ 128
    online-most-page = online-most header (world_with header is.volumes s) c.number is.is.world c_in

    pub within-page : c.number < length s.cpu
    within-page = subst (λ (n : ℕ). c.number < n) (sym is.is.world.page_base.opening.shaped.cpu) c_in
