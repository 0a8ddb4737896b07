-- The definitions that other crates and this one's proofs cite, passed on from one place. Declares nothing.
pub use Rattle.vms_trace_parts.specs.Parts.{Begin, BeginAfter, IsWithBoundary, TracePart, begin_of, segments_of_begin}
pub use Rattle.vms_trace_parts.specs.Parts.{boundary_of, header_at, header_in, part_of, segments_of_part, parts_of}
pub use Rattle.vms_trace_parts.specs.Parts.{segments_of_parts}
pub use Rattle.vms_trace_parts.specs.Parts.Begin.{AfterHeader, WithBoundary}
pub use Rattle.vms_trace_parts.specs.Copying.{copied_line, copying, part_past, shown_by_copy}
pub use Rattle.vms_trace_parts.specs.BodyStates.{StandsBefore, TakesLine, held_begin, held_part}
pub use Rattle.vms_trace_parts.specs.CopiedTexts.{AreAboveLimit, ArePartsOf, BeginsCopy, CopiesAboveLimit, CopiesAll}
pub use Rattle.vms_trace_parts.specs.CopiedTexts.{CopiesMost, CopiesTaken, CopiesTexts, IsDueCopy, RefusesHeader}
pub use Rattle.vms_trace_parts.specs.CopiedTexts.{SaysCopied, copied_text, counted_text, stops_copy, copied_under}
