-- For other crates too: a run through segments that may stand ends with what their lines make of the first start.
use Rattle.std.proofs.Common.{ℕ, List, [], ◌∷◌, map, sym, ap, subst, ◌∙◌, append-nil}
use Rattle.std.specs.Prelude.{reverse}
use Rattle.vms_world.specs.Common.{Header, ZoneSize, IsHeader, GivesThresholds, counted_of, AreSegments, Between, Phase}
use Rattle.vms_world.specs.Common.{Segment, contents_of, lines_of_segments, Start, first_start, start_after}
use Rattle.vms_world.specs.Common.{start_at_end, start_past, line_of, Item, started, IsWorldPhase, IsWorldRun}
use Rattle.vms_world.specs.Common.{SegmentsLead, TableHistories, LeavesNothing}
use Rattle.vms_script.proofs.Common.{SegmentsHaveAllLines-holds, SegmentsMayStand-holds, start_at_end-after}
use Rattle.vms_script.proofs.Common.{start_at_end-append}
use Rattle.vms_text.specs.declared.acts.Line.TheVariants.{Boundary}
use Rattle.vms_world.specs.declared.worlds.World.{World}
use Rattle.vms_file_order.specs.Common.{MakeInAnyOrder, IsStartOf}
use Rattle.vms_file_order.proofs.BoundaryStarts.{IsStartOf-crossed}
use Rattle.vms_file_order.proofs.WorldStarts.{IsStartOf-first, IsStartOf-left}

module _ (header : Header) (pressure normal : ZoneSize → ℕ → ℕ → Type 0) (gives : GivesThresholds normal)
  where
    IsStartOf-phase : (start : Start) (w : World) → IsStartOf header start w → (items : List Item)
        → AreSegments header start (Phase items ∷ []) → (hs : TableHistories) (next : World)
        → IsWorldPhase header pressure normal w items hs next
        → IsStartOf header (start_at_end start (map line_of items)) next
    IsStartOf-phase start w is items may hs next phase =
        let made : MakeInAnyOrder header pressure normal w items hs = record {
          complete = phase.complete;
          page_lanes = phase.page_lanes;
          event_lanes = phase.event_lanes;
          pcpu_lanes = phase.pcpu_lanes;
          page_lines = phase.page_lines;
          event_lines = phase.event_lines;
          pcpu_lines = phase.pcpu_lines;
        } in
        subst (IsStartOf header (start_at_end start (map line_of items))) (sym phase.left)
        (IsStartOf-left pressure normal header start w is items may.0.1 hs made phase.spent
        (subst (LeavesNothing header) phase.left phase.buried))

    pub IsStartOf-led_through : (segments : List Segment) (hss : List TableHistories) (start : Start) (w last : World)
        → IsStartOf header start w → AreSegments header start segments
        → SegmentsLead header pressure normal segments hss w last
        → IsStartOf header (start_at_end start (lines_of_segments segments)) last
    IsStartOf-led_through [] [] start w last is are same = subst (IsStartOf header start) same is
    IsStartOf-led_through [] (hs ∷ more) start w last is are through = absurd through
    IsStartOf-led_through (Phase items ∷ segments) [] start w last is are through = absurd through
    IsStartOf-led_through (Phase items ∷ segments) (hs ∷ more) start w last is are (next, phase, through) =
        subst (λ (end : Start). IsStartOf header end last)
        (sym (start_at_end-append start (map line_of items) (lines_of_segments segments)))
        (IsStartOf-led_through segments more (start_at_end start (map line_of items)) next last
        (IsStartOf-phase start w is items ((are.0.0, are.0.1, tt), tt) hs next phase) are.1 through)
    IsStartOf-led_through (Between number b ∷ segments) hss start w last is are (next, may, crosses, through) =
        IsStartOf-led_through segments hss (start_past (Boundary b) start) next last
        (IsStartOf-crossed header start normal gives w next is b are.0.0 are.0.1 crosses) are.1 through

    module _ (valid : IsHeader header) where
      pub IsStartOf-run : (segments : List Segment) (hss : List TableHistories) (last : World)
          → AreSegments header first_start segments → IsWorldRun header pressure normal segments hss last
          → IsStartOf header (start_at_end first_start (lines_of_segments segments)) last
      IsStartOf-run segments hss last are run = IsStartOf-led_through segments hss first_start
          (started header run.zones)
          last (IsStartOf-first header valid normal gives run.zones run.answers) are run.leads

      -- so that of a body ends with what the lines make of it that count
      pub IsStartOf-body : (n : ℕ) (texts : List (List ℕ)) (hss : List TableHistories) (last : World)
          → IsWorldRun header pressure normal (contents_of header n texts).segments hss last
          → IsStartOf header (start_after first_start (counted_of header [] texts)) last
      IsStartOf-body n texts hss last run =
          let segments = (contents_of header n texts).segments in
          let lines = lines_of_segments segments in
          subst (λ (end : Start). IsStartOf header end last)
          (start_at_end-after first_start [] lines
          ∙ ap (start_after first_start) (append-nil (reverse lines) ∙ SegmentsHaveAllLines-holds header n texts))
          (IsStartOf-run segments hss last (SegmentsMayStand-holds header n texts valid) run)
