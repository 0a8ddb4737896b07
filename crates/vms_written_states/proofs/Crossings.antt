-- For other crates too: a boundary line leads from page counters of a start to those of what the line makes of it.
use Rattle.std.proofs.Common.{◌≡◌, ℕ, List, Ok, sym, ap, subst}
use Rattle.vms_text.specs.declared.acts.Boundary.{Boundary as BoundaryOf}
use Rattle.vms_text.specs.declared.acts.Boundary.TheVariants.{Online, Sync}
use Rattle.vms_text.specs.declared.acts.Line.TheVariants.{Boundary}
use Rattle.vms_world.specs.Common.{Header, ZoneSize, State, Start, start_past, GivesThresholds, IsLineOf, allowed_from}
use Rattle.vms_world.specs.Common.{Crosses, Flush, Offline, Report}
use Rattle.vms_file_order.proofs.Common.{IsStartOf-crossed}
use Rattle.vms_written.specs.Common.{CrossesPages}
use Rattle.vms_written_states.specs.PageStarts.{IsPageStart, world_with}

module _ (header : Header) (normal : ZoneSize → ℕ → ℕ → Type 0) (volumes : List ℕ) (s next : State) where
  -- the world with these page counters is crossed with them
  Crosses-pages : (b : BoundaryOf) → CrossesPages header normal b s next
      → Crosses header normal b (world_with header volumes s) (world_with header volumes next)
  Crosses-pages (Offline c) is = ap (world_with header volumes) is
  Crosses-pages (Online c) (zones, answers, is) = (zones, answers, ap (world_with header volumes) is)
  Crosses-pages Flush is = ap (world_with header volumes) is
  Crosses-pages Sync is = ap (world_with header volumes) is
  Crosses-pages (Report kind) is = ap (world_with header volumes) is

pub IsPageStart-crossed : (header : Header) (normal : ZoneSize → ℕ → ℕ → Type 0) → GivesThresholds normal
    → (start : Start) (s next : State) (b : BoundaryOf) → IsPageStart header start s → IsLineOf header (Boundary b)
    → allowed_from header start (Boundary b) ≡ Ok (Boundary b) → CrossesPages header normal b s next
    → IsPageStart header (start_past (Boundary b) start) next
IsPageStart-crossed header normal gives start s next b is known allowed crosses = record {
  volumes = is.volumes;
  is = IsStartOf-crossed header start normal gives (world_with header is.volumes s)
      (world_with header is.volumes next) is.is b known allowed
      (Crosses-pages header normal is.volumes s next b crosses);
}
