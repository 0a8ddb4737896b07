-- What a line of the body says: the grammar of lane lines and boundary lines.
use Rattle.std.specs.Prelude.{ℕ, nat_lt, ◌==◌, ◌&&◌, Bool, false, true, if◌then◌else◌, List, [], ◌∷◌, length, codes}
use Rattle.std.specs.Prelude.{bytes_eq, Result, Ok, Err}
use Rattle.std.specs.Str.Parse.{digits_value}
use Rattle.vms_base.specs.declared.headers.Header.{Header}
use Rattle.vms_text.specs.declared.acts.Act.{Act}
use Rattle.vms_text.specs.declared.acts.Boundary.TheVariants.{Sync, Offline, Online, Flush, Report}
use Rattle.vms_text.specs.declared.acts.Lane.{Lane as LaneOf}
use Rattle.vms_text.specs.declared.acts.Lane.TheVariants.{Cpu, Control}
use Rattle.vms_text.specs.declared.acts.Line.{Line}
use Rattle.vms_text.specs.declared.acts.Line.TheVariants.{Blank, Lane, Boundary}
use Rattle.vms_text.specs.declared.acts.ReportKind.TheVariants.{Vmstat, Zoneinfo, Totals, Counters}
use Rattle.vms_text.specs.Common.{is_numeral, words_of, and_then, most_line, is_ignored, is_clean}
use Rattle.vms_line.specs.declared.causes.LineCause.{LineCause}
use Rattle.vms_line.specs.declared.causes.LineCause.TheVariants.{Malformed, UnknownLane, LineTooLong}
use Rattle.vms_line.specs.Fields.{cpu_field}
use Rattle.vms_line.specs.Forms.{act_in_words}

-- a line of a lane, of what its words say
abbrev pub of_lane : LaneOf → Result Act LineCause → Result Line LineCause
of_lane lane act = and_then act (λ act. Ok (Lane lane act))

-- a line of CPU n's lane: its form is judged before the CPU, and the CPU before its fields
abbrev pub of_cpu : Header → ℕ → Result Act LineCause → Result Line LineCause
of_cpu header n (Err Malformed) = Err Malformed
of_cpu header n act = if nat_lt n header.layout.cpus then of_lane (Cpu (record { number = n })) act else Err UnknownLane

-- the words after `c` and a number
abbrev pub cpu_line : Header → ℕ → List (List ℕ) → Result Line LineCause
cpu_line header n (verb ∷ fields) = of_cpu header n (act_in_words header false verb fields)
cpu_line header n [] = Err Malformed

-- the words after `k`
abbrev pub control_line : Header → List (List ℕ) → Result Line LineCause
control_line header (verb ∷ fields) = of_lane Control (act_in_words header true verb fields)
control_line header [] = Err Malformed

-- the report that a word names
abbrev pub report_named : List ℕ → Result Line LineCause
report_named word =
    if bytes_eq word (codes "vmstat") then Ok (Boundary (Report Vmstat))
    else if bytes_eq word (codes "zoneinfo") then Ok (Boundary (Report Zoneinfo))
    else if bytes_eq word (codes "totals") then Ok (Boundary (Report Totals))
    else if bytes_eq word (codes "counters") then Ok (Boundary (Report Counters))
    else Err Malformed

-- a boundary line of one word: `sync` and `flush`
abbrev pub bare_boundary : List ℕ → Result Line LineCause
bare_boundary word =
    if bytes_eq word (codes "sync") then Ok (Boundary Sync)
    else if bytes_eq word (codes "flush") then Ok (Boundary Flush)
    else Err Malformed

-- a boundary line of two words: `offline CPU`, `online CPU` and `report KIND`
abbrev pub boundary_of : Header → List ℕ → List ℕ → Result Line LineCause
boundary_of header word field =
    if bytes_eq word (codes "offline") then and_then (cpu_field header field) (λ cpu. Ok (Boundary (Offline cpu)))
    else if bytes_eq word (codes "online") then and_then (cpu_field header field) (λ cpu. Ok (Boundary (Online cpu)))
    else if bytes_eq word (codes "report") then report_named field
    else Err Malformed

abbrev pub boundary_line : Header → List (List ℕ) → Result Line LineCause
boundary_line header (word ∷ []) = bare_boundary word
boundary_line header (word ∷ field ∷ []) = boundary_of header word field
boundary_line header _ = Err Malformed

-- `c` and a number of any length
abbrev pub is_cpu_word : List ℕ → Bool
is_cpu_word [] = false
is_cpu_word (byte ∷ bytes) = byte == 99 && is_numeral bytes

-- the number after a lane word's first byte
abbrev pub lane_number : List ℕ → ℕ
lane_number [] = 0
lane_number (byte ∷ bytes) = digits_value 10 bytes

-- what the words of a line say: its first word is a lane's, or that of a boundary line
abbrev pub read_words : Header → List (List ℕ) → Result Line LineCause
read_words header [] = Err Malformed
read_words header (first ∷ words) =
    if bytes_eq first (codes "k") then control_line header words
    else if is_cpu_word first then cpu_line header (lane_number first) words
    else boundary_line header (first ∷ words)

-- what a line says, or the first cause why nothing
abbrev pub read_line : Header → List ℕ → Result Line LineCause
read_line header line =
    if nat_lt most_line (length line) then Err LineTooLong
    else if is_ignored line then Ok Blank
    else if is_clean line then read_words header (words_of line)
    else Err Malformed
