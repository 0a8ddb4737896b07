-- The parts of a trace: what stands from its header, or from a boundary line that counts, up to the next one.
use Rattle.std.specs.Prelude.{◌≡◌, ℕ, List, [], ◌∷◌, ◌++◌, map, flat_map, All, Option, Some, None}
use Rattle.vms_base.specs.declared.headers.Header.{Header}
use Rattle.vms_text.specs.declared.acts.Boundary.{Boundary as BoundaryOf}
use Rattle.vms_text.specs.declared.acts.Item.{Item}
use Rattle.vms_script.specs.Common.{Between, Segment, phase_if_any}
use Rattle.vms_trace_parts.specs.declared.parts.Part.{Part}
use Rattle.vms_trace_parts.specs.declared.parts.PartBegin.{PartBegin}
use Rattle.vms_trace_parts.specs.declared.parts.PartBegin.TheVariants as begins
use Rattle.vms_trace_parts.specs.declared.parts.TraceParts.{TraceParts}

-- where a part begins: after the header, or with the boundary line of this number
pub data Begin : Type 0 where
  AfterHeader : Header → Begin
  WithBoundary : ℕ → BoundaryOf → Begin

-- a part: where it begins, and its lane lines that count, the oldest first
pub record TracePart : Type 0 where
  pub begin : Begin
  pub items : List Item

-- what is kept of a part, and of all
abbrev pub begin_of : PartBegin → Begin
begin_of (begins.AfterHeader header) = AfterHeader header.value
begin_of (begins.WithBoundary number boundary) = WithBoundary number boundary

abbrev pub part_of : Part → TracePart
part_of part = record { begin = begin_of part.begin; items = part.script }

abbrev pub parts_of : TraceParts → List TracePart
parts_of parts = map part_of parts.parts.items

-- the boundary line that a part begins with, and its number
abbrev pub boundary_of : Begin → Option (ℕ × BoundaryOf)
boundary_of (AfterHeader header) = None
boundary_of (WithBoundary number boundary) = Some (number, boundary)

-- the header that a part begins after, and the first of these parts
abbrev pub header_at : Begin → Option Header
header_at (AfterHeader header) = Some header
header_at (WithBoundary number boundary) = None

abbrev pub header_in : List TracePart → Option Header
header_in [] = None
header_in (part ∷ parts) = header_at part.begin

-- the first of these parts begins after this header, and every other one with a boundary line
abbrev pub IsWithBoundary : Begin → Type 0
IsWithBoundary (AfterHeader header) = ⊥
IsWithBoundary (WithBoundary number boundary) = Unit {0}

abbrev pub BeginAfter : Header → List TracePart → Type 0
BeginAfter header [] = ⊥
BeginAfter header (part ∷ parts) =
    (part.begin ≡ AfterHeader header) × All (λ other. IsWithBoundary other.begin) parts

-- the segments of a part: its boundary line, if it begins with one, and the phase of its lane lines, if it has some
abbrev pub segments_of_begin : Begin → List Segment
segments_of_begin (AfterHeader header) = []
segments_of_begin (WithBoundary number boundary) = Between number boundary ∷ []

abbrev pub segments_of_part : TracePart → List Segment
segments_of_part part = segments_of_begin part.begin ++ phase_if_any part.items

abbrev pub segments_of_parts : List TracePart → List Segment
segments_of_parts parts = flat_map segments_of_part parts
