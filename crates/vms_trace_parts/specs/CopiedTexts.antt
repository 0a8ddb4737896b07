-- What a copy says of a text, by its header and its body.
use Rattle.std.specs.Prelude.{◌≡◌, ◌⊎◌, ◌<◌, ◌≤◌, ℕ, suc, List, [], ◌∷◌, ◌++◌, drop, flat_map, length, reverse, Option}
use Rattle.std.specs.Prelude.{Some, None, Result, Ok, Err}
use Rattle.std.specs.Io.KnownBytes.{IsAtEnd}
use Rattle.vms_base.specs.Common.{IsHeader}
use Rattle.vms_base.specs.declared.headers.Header.{Header}
use Rattle.vms_text.specs.Common.{lines_of}
use Rattle.vms_header.specs.Common.{Fault, read_header, spelled_header}
use Rattle.vms_line.specs.Common.{spelled_line}
use Rattle.vms_script.specs.Common.{AreSegments, first_start}
use Rattle.vms_script.specs.Segments.{contents_of}
use Rattle.vms_stream.specs.declared.statuses.Status.{Status}
use Rattle.vms_stream.specs.declared.statuses.Status.TheVariants.{Done, Words, Refused, ReadFault, WriteFault, Memory}
use Rattle.vms_stream.specs.declared.statuses.Status.TheVariants.{NotCertified, TooLong}
use Rattle.vms_stream.specs.declared.statuses.Status.TheVariants as statuses
use Rattle.vms_stream.specs.Common.{AreLinesTaken, SaysPhased, halted, lines_taken, most_bytes, plainly, reading_of}
use Rattle.vms_stream.specs.Common.{waiting}
use Rattle.vms_command.specs.Common.{come_to, following, header_line, nothing_above, shown_given}
use Rattle.vms_trace_parts.specs.Copying.{copying, shown_by_copy}
use Rattle.vms_trace_parts.specs.Parts.{BeginAfter, TracePart, segments_of_parts}

-- the lines of a body that count, each in its one spelling
abbrev pub counted_text : Header → List (List ℕ) → List ℕ
counted_text header body = flat_map (spelled_line header) (reverse (come_to header nothing_above body).lines)

-- the copy of lines: the header and the lines of the body that count, or nothing where they have no whole header
abbrev pub copied_under : Result (Header × ℕ) Fault → List (List ℕ) → List ℕ
copied_under (Err fault) lines = []
copied_under (Ok (header, count)) lines = spelled_header header ++ counted_text header (drop count lines)

abbrev pub copied_text : List (List ℕ) → List ℕ
copied_text lines = copied_under (read_header lines) lines

-- these are the parts of a text with these lines: the first begins after its header, and all together have the segments
-- of its body, of which each may stand where it does
pub record ArePartsOf (lines : List (List ℕ)) (parts : List TracePart) (refused : ℕ) : Type 0 where
  pub header : Header
  pub count : ℕ
  pub header_is : read_header lines ≡ Ok (header, count)
  pub valid : IsHeader header
  pub begin : BeginAfter header parts
  pub segments : segments_of_parts parts ≡ (contents_of header (suc count) (drop count lines)).segments
  pub stand : AreSegments header first_start (segments_of_parts parts)
  -- so many lines of the body are refused
  pub refused_are : refused ≡ (come_to header nothing_above (drop count lines)).refused

-- the whole input was read, its copy was written, and its parts were kept
pub record CopiesAll (parts : List TracePart) (taken written : List ℕ) (at_end : Type 0) (counted : ℕ → Type 0)
    : Type 0 where
  pub ended : at_end
  pub within : length taken ≤ most_bytes
  pub refusals : ℕ
  pub parts_are : ArePartsOf (lines_of taken) parts refusals
  pub refused : counted refusals
  pub written_is : written ≡ copied_text (lines_of taken)

-- the header of the lines that were taken is refused
pub record RefusesHeader (taken written : List ℕ) (at_end : Type 0) : Type 0 where
  pub lines : List (List ℕ)
  pub judged : AreLinesTaken taken lines at_end
  pub fault : Fault
  pub refused : read_header lines ≡ Err fault
  -- it is one of the lines, or they are all of the input
  pub settled : (fault.line ≤ length lines) ⊎ at_end
  pub written_is : written ≡ header_line fault

-- the status with which lines stop a copy, if one of them does
abbrev pub stops_copy : List (List ℕ) → Option Status
stops_copy lines = halted (plainly (following copying)) (following copying).start lines

-- these are the lines above the first one that exceeds a limit
pub record AreAboveLimit (lines above : List (List ℕ)) : Type 0 where
  pub line : List ℕ
  pub rest : List (List ℕ)
  pub parts : lines ≡ above ++ line ∷ rest
  pub none_above : stops_copy above ≡ None
  pub exceeds : stops_copy (above ++ line ∷ []) ≡ Some TooLong

-- a line exceeds a limit, and the lines above it were copied
pub record CopiesAboveLimit (taken written : List ℕ) (at_end : Type 0) : Type 0 where
  pub lines : List (List ℕ)
  pub judged : AreLinesTaken taken lines at_end
  pub above : List (List ℕ)
  pub are : AreAboveLimit lines above
  pub written_is : written ≡ copied_text above

-- the input has too many bytes, and the whole lines that count were copied
pub record CopiesMost (taken written : List ℕ) : Type 0 where
  pub beyond : most_bytes < length taken
  pub written_is : written ≡ copied_text (lines_taken taken)

-- no line stops a copy, and the lines that were taken were copied
pub record CopiesTaken (taken written : List ℕ) (at_end : Type 0) : Type 0 where
  pub lines : List (List ℕ)
  pub judged : AreLinesTaken taken lines at_end
  pub none_stops : stops_copy lines ≡ None
  pub written_is : written ≡ copied_text lines

-- what is to be written of the input so far: the one line of a refused header, the copy of the lines above a limit, or
-- the copy of all lines that were taken
abbrev pub IsDueCopy : List ℕ → List ℕ → Type 0 → Type 0
IsDueCopy taken text at_end =
    RefusesHeader taken text at_end ⊎ CopiesAboveLimit taken text at_end ⊎ CopiesTaken taken text at_end

-- what was written begins it
pub record BeginsCopy (taken written : List ℕ) (at_end : Type 0) : Type 0 where
  pub unwritten : List ℕ
  pub due : IsDueCopy taken (written ++ unwritten) at_end

-- what a status says of what was taken and written, and of the parts that were kept
abbrev pub SaysCopied : List TracePart → Status → List ℕ → List ℕ → Type 0 → Type 0
SaysCopied parts Done taken written at_end = CopiesAll parts taken written at_end (λ refused. refused ≡ 0)
SaysCopied parts Words taken written at_end = ⊥
SaysCopied parts statuses.Header taken written at_end = RefusesHeader taken written at_end
SaysCopied parts Refused taken written at_end = CopiesAll parts taken written at_end (λ refused. 1 ≤ refused)
SaysCopied parts ReadFault taken written at_end = written ≡ copied_text (lines_taken taken)
SaysCopied parts WriteFault taken written at_end = BeginsCopy taken written at_end
SaysCopied parts Memory taken written at_end = BeginsCopy taken written at_end
SaysCopied parts TooLong taken written at_end =
    CopiesAboveLimit taken written at_end ⊎ CopiesMost taken written
SaysCopied parts NotCertified taken written at_end = ⊥

-- so it is by the text wherever a copy says it line by line
abbrev pub CopiesTexts : {R : Type 0} → (R → Option (List ℕ)) → (R → ℕ) → Type 0
CopiesTexts {R} left calls = (parts : List TracePart) (status : Status) (taken written : List ℕ) (src src' : R)
    → SaysPhased (waiting (following copying)) (shown_given shown_by_copy) parts status taken written
    (reading_of left calls src src')
    → SaysCopied parts status taken written (IsAtEnd (left src'))
