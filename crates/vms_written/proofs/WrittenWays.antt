-- The page events of a run are a written history of its segments.
use Rattle.std.proofs.Common.{ℕ, List, [], ◌∷◌, map, ap, subst}
use Rattle.vms_text.specs.declared.acts.Boundary.{Boundary}
use Rattle.vms_world.specs.Common.{Offline, Flush, Header, ZoneSize, Segment, Phase, Between, SegmentsLead}
use Rattle.vms_world.specs.Common.{TableHistories, State, Crosses}
use Rattle.vms_text.specs.declared.acts.Boundary.TheVariants.{Online}
use Rattle.vms_world.specs.declared.worlds.World.{World}
use Rattle.vms_written.specs.Common.{CrossesPages, LeadsThrough}
use Rattle.vms_written.proofs.WrittenLanes.{IsWrittenPhase-of_lanes}

module _ (header : Header) (pressure normal : ZoneSize → ℕ → ℕ → Type 0) where
  CrossesPages-crossed : (b : Boundary) (w next : World) → Crosses header normal b w next
      → CrossesPages header normal b w.pages next.pages
  CrossesPages-crossed (Offline c) w next is = ap (λ (x : World). x.pages) is
  CrossesPages-crossed (Online c) w next (zones, answers, is) = (zones, answers, ap (λ (x : World). x.pages) is)
  CrossesPages-crossed Flush w next is = ap (λ (x : World). x.pages) is
  CrossesPages-crossed _ w next is = ap (λ (x : World). x.pages) is

  pub LeadsThrough-led : (segments : List Segment) (hss : List TableHistories) (w last : World)
      → SegmentsLead header pressure normal segments hss w last
      → LeadsThrough header pressure normal segments (map (λ hs. hs.pages) hss) w.pages last.pages
  LeadsThrough-led [] [] w last is = ap (λ (x : World). x.pages) is
  LeadsThrough-led [] (hs ∷ more) w last led = led
  LeadsThrough-led (Phase items ∷ segments) [] w last led = led
  LeadsThrough-led (Phase items ∷ segments) (hs ∷ more) w last (next, is, led) = (
    IsWrittenPhase-of_lanes header pressure normal w.pages items hs.pages is.complete.pages is.page_lanes is.page_lines,
    subst (λ (s : State). LeadsThrough header pressure normal segments (map (λ hs. hs.pages) more) s last.pages)
        (ap (λ (x : World). x.pages) is.left) (LeadsThrough-led segments more next last led),
  )
  LeadsThrough-led (Between number b ∷ segments) hss w last (next, may, crosses, led) =
      (next.pages, may, CrossesPages-crossed b w next crosses, LeadsThrough-led segments hss next last led)
