-- What a copy writes of a trace line by line, and what it keeps of it.
use Rattle.std.specs.Prelude.{◌≡◌, ℕ, true, List, [], ◌∷◌, ◌++◌, Option, Result, Ok, Err}
use Rattle.vms_base.specs.declared.headers.Header.{Header}
use Rattle.vms_text.specs.declared.acts.Line.{Line}
use Rattle.vms_text.specs.declared.acts.Line.TheVariants.{Blank, Lane, Boundary}
use Rattle.vms_line.specs.declared.causes.LineCause.{LineCause}
use Rattle.vms_header.specs.Common.{spelled_header}
use Rattle.vms_stream.specs.Common.{Plain}
use Rattle.vms_command.specs.Common.{LinesAbove, MayEnd-status_at_end, TraceCommand, status_at_end}
use Rattle.vms_check.specs.Common.{accepted_line}
use Rattle.vms_trace_parts.specs.Parts.{TracePart}
use Rattle.vms_trace_parts.specs.Parts.Begin.{AfterHeader, WithBoundary}

-- what is written of a line, by what was judged of it: nothing for one that is refused
abbrev pub copied_line : Header → Result Line LineCause → List ℕ
copied_line header (Ok line) = accepted_line header line
copied_line header (Err cause) = []

-- the part so far with line n, by what was judged of it: a boundary line that counts begins the next part
abbrev pub part_past : ℕ → Result Line LineCause → TracePart → TracePart
part_past n (Ok Blank) part = part
part_past n (Ok (Lane lane act)) part =
    record part { items = part.items ++ record { number = n; lane = lane; act = act } ∷ [] }
part_past n (Ok (Boundary boundary)) part = record { begin = WithBoundary n boundary; items = [] }
part_past n (Err cause) part = part

-- a copy, line by line. What ends a phase of other commands ends a part here, and the part is its outcome
abbrev pub copying : TraceCommand TracePart TracePart
copying = record {
  begins = λ header. record { begin = AfterHeader header; items = [] };
  opens = spelled_header;
  phase_open = λ header above part. true;
  Allows = λ header above part given. given ≡ part;
  next = λ header n above result given part. part_past n result part;
  text = λ header n above result part. Plain (copied_line header result);
  last = λ header above part. Plain [];
  ends = λ above. status_at_end above.refused;
  may_end = λ above. MayEnd-status_at_end above.refused;
}

-- it shows nothing at the end
abbrev pub shown_by_copy : Header → LinesAbove → TracePart → Option TracePart → Type 0
shown_by_copy header above part given = Unit {0}
