-- The header of a trace, and the first line at fault.
use Rattle.std.specs.Prelude.{ℕ, suc, ◌≡◌, ◌≤◌, nat_lt, nat_le, ◌&&◌, Bool, true, false, if◌then◌else◌, List, [], ◌∷◌}
use Rattle.std.specs.Prelude.{length, take, drop, codes, bytes_eq, Result, Ok, Err}
use Rattle.std.specs.Cmp.Lexicographic.{pointwise}
use Rattle.vms_base.specs.declared.headers.Header.{Header}
use Rattle.vms_text.specs.Common.{lines_of, words_of, and_then, most_line, is_ignored, is_clean}
use Rattle.vms_header.specs.declared.causes.HeaderCause.{HeaderCause}
use Rattle.vms_header.specs.declared.causes.HeaderCause.TheVariants.{BadMagic, BadCpus, MissingGo, Malformed}
use Rattle.vms_header.specs.declared.causes.HeaderCause.TheVariants.{LineTooLong}
use Rattle.vms_header.specs.declared.causes.HeaderError.{HeaderError}
use Rattle.vms_header.specs.declared.causes.HeaderError.TheVariants.{Bad, Memory}
use Rattle.vms_header.specs.Drafts.{Draft, Section, section_index, first_draft, most_cpus, header_of}
use Rattle.vms_header.specs.Drafts.Section.{AtCpus, AtItems, AtZones, AtBases}
use Rattle.vms_header.specs.Sections.{any_number, watermarks_row, item_row, any_zone_row, after_zones, base_row}
use Rattle.vms_header.specs.Sections.{counter_row}

-- a header's line that is refused, counted from 1, and why
pub record Fault : Type 0 where
  pub line : ℕ
  pub cause : HeaderCause

-- how far a header was read: not at all, up to its version, or up to a draft
pub data Stage : Type 0 where
  Opening : Stage
  Versioned : Bool → Stage
  Drafting : Draft → Stage

-- what a line makes of a stage: the header goes on, or `go` ends it
pub data HeadStep : Type 0 where
  Goes : Stage → HeadStep
  Ends : Draft → HeadStep

-- whether the words are these two
abbrev pub are_words : List (List ℕ) → List (List ℕ) → Bool
are_words words given = pointwise bytes_eq words given

-- the version that the words of the first line name
abbrev pub version_line : Bool → List (List ℕ) → Result HeadStep HeaderCause
version_line clean words =
    if are_words words (codes "vmtrace" ∷ codes "1" ∷ [])
    then (if clean then Ok (Goes (Versioned false)) else Err Malformed)
    else if are_words words (codes "vmtrace" ∷ codes "2" ∷ [])
    then (if clean then Ok (Goes (Versioned true)) else Err Malformed)
    else Err BadMagic

-- so many CPUs, if the version has them
abbrev pub with_cpus : Bool → ℕ → Result HeadStep HeaderCause
with_cpus wide n =
    if nat_le 1 n && nat_le n (most_cpus wide) then Ok (Goes (Drafting (first_draft wide n))) else Err BadCpus

-- `cpus N`
abbrev pub cpus_line : Bool → List (List ℕ) → Result HeadStep HeaderCause
cpus_line wide (word ∷ n ∷ []) =
    if bytes_eq word (codes "cpus") then and_then (any_number n) (with_cpus wide) else Err Malformed
cpus_line wide _ = Err Malformed

-- a line that goes on
abbrev pub going : Result Draft HeaderCause → Result HeadStep HeaderCause
going draft = and_then draft (λ draft. Ok (Goes (Drafting draft)))

-- `go`, after a zone line
abbrev pub go_row : Draft → List (List ℕ) → Result HeadStep HeaderCause
go_row draft [] = and_then (after_zones draft (Ok draft)) (λ draft. Ok (Ends draft))
go_row draft _ = Err Malformed

-- whether a line of this section may follow the draft's lines
abbrev pub is_due : Draft → Section → Bool
is_due draft section = nat_le (section_index draft.section) (section_index section)

-- a line after `cpus`: its first word has to be due
abbrev pub draft_line : Draft → List (List ℕ) → Result HeadStep HeaderCause
draft_line draft [] = Err Malformed
draft_line draft (word ∷ fields) =
    if bytes_eq word (codes "watermarks")
    then (if is_due draft AtCpus then going (watermarks_row draft fields) else Err Malformed)
    else if bytes_eq word (codes "item")
    then (if draft.wide && is_due draft AtItems then going (item_row draft fields) else Err Malformed)
    else if bytes_eq word (codes "zone")
    then (if is_due draft AtZones then going (any_zone_row draft draft.share fields) else Err Malformed)
    else if bytes_eq word (codes "base")
    then (if is_due draft AtBases then going (base_row draft fields) else Err Malformed)
    else if bytes_eq word (codes "counter") then going (counter_row draft fields)
    else if bytes_eq word (codes "go") then go_row draft fields
    else Err Malformed

-- the words of a line that isn't ignored, and whether each of its bytes is one of a trace
abbrev pub stage_line : Stage → Bool → List (List ℕ) → Result HeadStep HeaderCause
stage_line Opening clean words = version_line clean words
stage_line (Versioned wide) clean words = if clean then cpus_line wide words else Err Malformed
stage_line (Drafting draft) clean words = if clean then draft_line draft words else Err Malformed

-- a line of a header
abbrev pub head_line : Stage → List ℕ → Result HeadStep HeaderCause
head_line stage line =
    if nat_lt most_line (length line) then Err LineTooLong
    else if is_ignored line then Ok (Goes stage)
    else stage_line stage (is_clean line) (words_of line)

-- why a text that ends here has no header
abbrev pub missing : Stage → HeaderCause
missing Opening = BadMagic
missing _ = MissingGo

-- the header once line n was read; `follows` is what the lines after it say
abbrev pub on_step : ℕ → Result HeadStep HeaderCause → (Stage → Result (Header × ℕ) Fault) → Result (Header × ℕ) Fault
on_step n (Ok (Goes stage)) follows = follows stage
on_step n (Ok (Ends draft)) follows = Ok (header_of draft, n)
on_step n (Err cause) follows = Err (record { line = n; cause = cause })

-- the header that these lines say, the first of them line n, and the number of its last line
abbrev pub header_from : ℕ → Stage → List (List ℕ) → Result (Header × ℕ) Fault
header_from n stage [] = Err (record { line = n; cause = missing stage })
header_from n stage (line ∷ lines) = on_step n (head_line stage line) (λ next. header_from (suc n) next lines)

-- the header that the first lines of a trace say, and how many they are, or the first line at fault. Where the lines
-- end too early it is the line after the last.
abbrev pub read_header : List (List ℕ) → Result (Header × ℕ) Fault
read_header lines = header_from 1 Opening lines

-- what reading a header from a text answers: the header, the number of its lines, and that of its bytes, after which
-- the body begins. Otherwise it is the first line at fault. Memory may run out at any text.
abbrev pub ReadsHeader : List ℕ → Result (Header × ℕ × ℕ) HeaderError → Type 0
ReadsHeader text (Ok found) = (read_header (lines_of text) ≡ Ok (found.0, found.1)) × (found.2 ≤ length text)
    × (lines_of (take found.2 text) ≡ take found.1 (lines_of text))
    × (lines_of (drop found.2 text) ≡ drop found.1 (lines_of text))
ReadsHeader text (Err (Bad line cause)) = read_header (lines_of text) ≡ Err (record { line = line; cause = cause })
ReadsHeader text (Err Memory) = Unit {0}
