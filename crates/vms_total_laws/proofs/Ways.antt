-- For other crates too: on a way through the segments of a text the totals grow by the plain sums of the phases.
use Rattle.std.proofs.Common.{◌≡◌, ℕ, List, [], ◌∷◌, ap, subst}
use Rattle.std.specs.Prelude.{All}
use Rattle.std.proofs.lemmas.List.Elements.{All-head, All-tail}
use Rattle.vms_world.specs.Common.{Header, ZoneSize, Offline, Flush, Report, Item, Segment, Phase, Between, Crosses}
use Rattle.vms_world.specs.Common.{MayCross, IsWorldPhase, SegmentsLead, FitVolumes, AreComplete, TableHistories}
use Rattle.vms_world.specs.Common.{LeavesNothing, SpendTheirLines, left_by, IsWorldOf}
use Rattle.vms_text.specs.declared.acts.Boundary.{Boundary}
use Rattle.vms_text.specs.declared.acts.Boundary.TheVariants.{Sync, Online}
use Rattle.vms_world.specs.declared.worlds.World.{World}
use Rattle.vms_file_order.specs.Common.{MakeInAnyOrder}
use Rattle.vms_report.specs.Common.{event_total}
use Rattle.vms_total_laws.specs.Common.{AreLinesOf, phases_among}

module _ (header : Header) (pressure normal : ZoneSize → ℕ → ℕ → Type 0) where
  -- a phase that leads from one world to another makes its lines
  pub MakeInAnyOrder-led : (w : World) (items : List Item) (hs : TableHistories) (next : World)
      → IsWorldPhase header pressure normal w items hs next → MakeInAnyOrder header pressure normal w items hs
  MakeInAnyOrder-led w items hs next is = record {
    complete = is.complete;
    page_lanes = is.page_lanes;
    event_lanes = is.event_lanes;
    pcpu_lanes = is.pcpu_lanes;
    page_lines = is.page_lines;
    event_lines = is.event_lines;
    pcpu_lines = is.pcpu_lines;
  }

  -- a boundary line counts no event
  pub events-crossed : (boundary : Boundary) (w next : World) → Crosses header normal boundary w next → (k : ℕ)
      → event_total header next k ≡ event_total header w k
  events-crossed (Offline c) w next same k = ap (λ x. event_total header x k) same
  events-crossed (Online c) w next (zones, are, same) k = ap (λ x. event_total header x k) same
  events-crossed Flush w next same k = ap (λ x. event_total header x k) same
  events-crossed Sync w next same k = ap (λ x. event_total header x k) same
  events-crossed (Report kind) w next same k = ap (λ x. event_total header x k) same

  -- what a way keeps of its worlds: from each on, what it makes and where it leads
  module _ (Moves : List (List Item) → World → World → Type 0)
      (stays : (w : World) → Moves [] w w)
      (phase : (w : World) (items : List Item) (hs : TableHistories) (rest : List (List Item)) (last : World)
      → IsWorldOf header w → MakeInAnyOrder header pressure normal w items hs → AreLinesOf header items
      → Moves rest (left_by header w items hs) last → Moves (items ∷ rest) w last)
      (crossed : (boundary : Boundary) (w next : World) (rest : List (List Item)) (last : World)
      → IsWorldOf header w → Crosses header normal boundary w next → Moves rest next last → Moves rest w last)
      (keeps_crossed : (boundary : Boundary) (w next : World) → IsWorldOf header w
      → MayCross header.layout w.pages boundary → Crosses header normal boundary w next → IsWorldOf header next)
      (keeps_phase : (w : World) (items : List Item) (hs : TableHistories) → IsWorldOf header w →
      AreComplete header w hs
      → SpendTheirLines header items hs → FitVolumes header w items
      → LeavesNothing header (left_by header w items hs) → IsWorldOf header (left_by header w items hs)) where
    pub Moves-led_through : (segments : List Segment) (hss : List TableHistories) (w last : World) → IsWorldOf header w
        → All (AreLinesOf header) (phases_among segments)
        → SegmentsLead header pressure normal segments hss w last → Moves (phases_among segments) w last
    Moves-led_through [] [] w last of known same = subst (Moves [] w) same (stays w)
    Moves-led_through [] (hs ∷ more) w last of known through = absurd through
    Moves-led_through (Phase items ∷ segments) [] w last of known through = absurd through
    Moves-led_through (Phase items ∷ segments) (hs ∷ more) w last of known (next, is, through) =
        let left = left_by header w items hs in
        let of_left = keeps_phase w items hs of is.complete is.spent is.volumes
        (subst (LeavesNothing header) is.left is.buried) in
        phase w items hs (phases_among segments) last of (MakeInAnyOrder-led w items hs next is)
        (All-head (AreLinesOf header) items (phases_among segments) known)
        (Moves-led_through segments more left last of_left
        (All-tail (AreLinesOf header) items (phases_among segments) known)
        (subst (λ (x : World). SegmentsLead header pressure normal segments more x last) is.left through))
    Moves-led_through (Between number b ∷ segments) hss w last of known (next, may, crosses, through) =
        crossed b w next (phases_among segments) last of crosses
        (Moves-led_through segments hss next last (keeps_crossed b w next of may crosses) known through)
