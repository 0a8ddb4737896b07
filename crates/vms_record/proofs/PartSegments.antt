-- The segments of parts, one part after another.
use Rattle.std.proofs.Common.{◌≡◌, ◌≢◌, ◌<◌, ◌+◌, ◌∙◌, ℕ, List, [], ◌∷◌, ◌++◌, length, take, drop, get_or, append-nil}
use Rattle.std.proofs.Common.{ap, inr, append_assoc, map, subst, sym, take-append-drop, Option, Some, None, refl}
use Rattle.std.proofs.lemmas.List.{drop_more, get_or-map, length-map, take_more}
use Rattle.std.proofs.lemmas.Option.{same_Some}
use Rattle.std.proofs.lemmas.List.Concat.{flat_map-append}
use Rattle.vms_core.specs.Pages.{History}
use Rattle.vms_recorded.specs.Histories.{HasRecorded}
use Rattle.vms_recording.specs.Common.{StopsInPhase}
use Rattle.vms_world.specs.Common.{phase_if_any, Between, Header, Item, Phase, Segment, Start, State}
use Rattle.vms_text.specs.declared.acts.Boundary.{Boundary as BoundaryOf}
use Rattle.vms_trace_parts.specs.Common.{AfterHeader, Begin, TracePart, WithBoundary, boundary_of, segments_of_begin}
use Rattle.vms_trace_parts.specs.Common.{part_of, segments_of_part, segments_of_parts}
use Rattle.vms_trace_parts.specs.declared.parts.Part.{Part}
use Rattle.vms_record.specs.Histories.{StopsWithin}

-- an item of the parts
part-at : (parts : List Part) (i : ℕ) (item : Part) → i < length parts → item ≡ get_or parts i item
    → get_or (map part_of parts) i (part_of item) ≡ part_of item
part-at parts i item below is = get_or-map part_of parts i item (part_of item) below ∙ ap part_of (sym is)

module _ (parts : List Part) (i : ℕ) (item : Part) (below : i < length parts) (is : item ≡ get_or parts i item) where
  within : i < length (map part_of parts)
  within = subst (λ (n : ℕ). i < n) (sym (length-map parts part_of)) below

  pub segments-more : segments_of_parts (take (i + 1) (map part_of parts))
      ≡ segments_of_parts (take i (map part_of parts)) ++ segments_of_part (part_of item)
  segments-more =
      let all = map part_of parts in
      ap segments_of_parts (take_more all i (part_of item) within)
      ∙ flat_map-append segments_of_part (take i all) (get_or all i (part_of item) ∷ [])
      ∙ ap (λ (l : List Segment). segments_of_parts (take i all) ++ l)
      (append-nil (segments_of_part (get_or all i (part_of item))) ∙ ap segments_of_part (part-at parts i item below is))

  pub segments-left : segments_of_parts (drop i (map part_of parts))
      ≡ segments_of_part (part_of item) ++ segments_of_parts (drop (i + 1) (map part_of parts))
  segments-left =
      let all = map part_of parts in
      ap segments_of_parts (drop_more all i (part_of item) within)
      ∙ ap (λ (part : TracePart). segments_of_part part ++ segments_of_parts (drop (i + 1) all))
      (part-at parts i item below is)

  pub segments-cut : (segments_of_parts (take i (map part_of parts)) ++ segments_of_part (part_of item))
      ++ segments_of_parts (drop (i + 1) (map part_of parts))
      ≡ segments_of_parts (map part_of parts)
  segments-cut =
      let all = map part_of parts in
      append_assoc (segments_of_parts (take i all)) (segments_of_part (part_of item)) (segments_of_parts (drop (i + 1) all))
      ∙ ap (λ (l : List Segment). segments_of_parts (take i all) ++ l) (sym segments-left)
      ∙ sym (flat_map-append segments_of_part (take i all) (drop i all))
      ∙ ap segments_of_parts (take-append-drop i all)

pub phase_if_any-some : (items : List Item) → items ≢ [] → phase_if_any items ≡ Phase items ∷ []
phase_if_any-some [] some = absurd (some refl)
phase_if_any-some (item ∷ items) some = refl

-- the boundary line that a part begins with
pub segments-unbound : (begin : Begin) → boundary_of begin ≡ None → segments_of_begin begin ≡ []
segments-unbound (AfterHeader header) none = refl
segments-unbound (WithBoundary number boundary) none = absurd cc

pub segments-bound : (begin : Begin) (number : ℕ) (boundary : BoundaryOf) → boundary_of begin ≡ Some (number, boundary)
    → segments_of_begin begin ≡ Between number boundary ∷ []
segments-bound (AfterHeader header) number boundary some = absurd cc
segments-bound (WithBoundary other found) number boundary some =
    ap (λ (named : ℕ × BoundaryOf). Between named.0 named.1 ∷ []) (same_Some (other, found) (number, boundary) some)

-- the writing stopped within a phase that follows these segments
pub StopsWithin-phase : (header : Header) (segments : List Segment) (hs : List History) (start : Start) (s : State)
    (items : List Item) (after : List Segment) (written : List ℕ) → HasRecorded header segments hs start s
    → StopsInPhase header hs s items written → StopsWithin header (segments ++ Phase items ∷ after) written
StopsWithin-phase header segments hs start s items after written recorded stops = inr (
  stops.unwritten,
  record {
    segments = segments;
    rest = Phase items ∷ after;
    parts = refl;
    hs = hs;
    start = start;
    s = s;
    recorded = recorded;
    due = stops.due;
  },
)
