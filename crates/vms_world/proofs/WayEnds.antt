-- Each world on a way through the segments of a text belongs to the header.
use Rattle.std.proofs.Common.{ℕ, List, [], ◌∷◌, sym, subst}
use Rattle.vms_calls.specs.Common.{Header, ZoneSize, IsHeader, GivesThresholds}
use Rattle.vms_text.specs.declared.acts.Item.{Item}
use Rattle.vms_world.specs.declared.worlds.World.{World}
use Rattle.vms_world.specs.Common.{IsWorldPhase, IsWorldRun, SegmentsLead, TableHistories, LeavesNothing, started}
use Rattle.vms_world.specs.Common.{IsWorldOf}
use Rattle.vms_script.specs.Common.{Segment, Phase, Between}
use Rattle.vms_world.proofs.Crossings.{IsWorldOf-crossed}
use Rattle.vms_world.proofs.PhaseEnds.{IsWorldOf-left_by}
use Rattle.vms_world.proofs.FirstWorlds.{IsWorldOf-start}

module _ (header : Header) (pressure normal : ZoneSize → ℕ → ℕ → Type 0) (gives : GivesThresholds normal) where
  IsWorldOf-phase : (items : List Item) (hs : TableHistories) (w next : World) → IsWorldOf header w
      → IsWorldPhase header pressure normal w items hs next → IsWorldOf header next
  IsWorldOf-phase items hs w next of is = subst (IsWorldOf header) (sym is.left)
      (IsWorldOf-left_by header w items hs of is.complete is.spent is.volumes
      (subst (LeavesNothing header) is.left is.buried))

  pub IsWorldOf-led_through : (segments : List Segment) (hss : List TableHistories) (w last : World)
      → IsWorldOf header w → SegmentsLead header pressure normal segments hss w last → IsWorldOf header last
  IsWorldOf-led_through [] [] w last of same = subst (IsWorldOf header) same of
  IsWorldOf-led_through [] (hs ∷ more) w last of through = absurd through
  IsWorldOf-led_through (Phase items ∷ segments) [] w last of through = absurd through
  IsWorldOf-led_through (Phase items ∷ segments) (hs ∷ more) w last of (next, is, through) =
      IsWorldOf-led_through segments more next last (IsWorldOf-phase items hs w next of is) through
  IsWorldOf-led_through (Between number b ∷ segments) hss w last of (next, may, crosses, through) =
      IsWorldOf-led_through segments hss next last
      (IsWorldOf-crossed header normal w next of gives b may crosses) through

  pub IsWorldOf-run : IsHeader header → (segments : List Segment) (hss : List TableHistories) (last : World)
      → IsWorldRun header pressure normal segments hss last → IsWorldOf header last
  IsWorldOf-run valid segments hss last run = IsWorldOf-led_through segments hss (started header run.zones) last
      (IsWorldOf-start header valid normal gives run.zones run.answers) run.leads
