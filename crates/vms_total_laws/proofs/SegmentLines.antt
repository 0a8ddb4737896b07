-- For other crates too: the phases among segments that may stand keep lines of the header, whose numbers ascend.
use Rattle.std.proofs.Common.{List, [], ◌∷◌}
use Rattle.std.specs.Prelude.{All}
use Rattle.std.proofs.lemmas.List.Elements.{All-cons, All-nil}
use Rattle.vms_world.specs.Common.{Header, AreSegments, Segment, Phase, Between, lines_of_segment, Start, start_at_end}
use Rattle.vms_total_laws.specs.Common.{AreLinesOf, AreNumbered, phases_among}

module _ (header : Header) where
  pub known-segments : (start : Start) (segments : List Segment) → AreSegments header start segments
      → All (AreLinesOf header) (phases_among segments)
  known-segments start [] are = All-nil (AreLinesOf header)
  known-segments start (Phase items ∷ segments) are =
      All-cons (AreLinesOf header) items (phases_among segments) are.0.1.known
      (known-segments (start_at_end start (lines_of_segment (Phase items))) segments are.1)
  known-segments start (Between number boundary ∷ segments) are =
      known-segments (start_at_end start (lines_of_segment (Between number boundary))) segments are.1

  pub numbered-segments : (start : Start) (segments : List Segment) → AreSegments header start segments
      → All AreNumbered (phases_among segments)
  numbered-segments start [] are = All-nil AreNumbered
  numbered-segments start (Phase items ∷ segments) are =
      All-cons AreNumbered items (phases_among segments) are.0.1.ascend
      (numbered-segments (start_at_end start (lines_of_segment (Phase items))) segments are.1)
  numbered-segments start (Between number boundary ∷ segments) are =
      numbered-segments (start_at_end start (lines_of_segment (Between number boundary))) segments are.1
