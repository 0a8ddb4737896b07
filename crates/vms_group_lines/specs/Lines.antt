-- What a line of the body says: the grammar of lane lines and boundary lines.
use Rattle.std.specs.Prelude.{ℕ, nat_lt, ◌==◌, ◌&&◌, Bool, false, if◌then◌else◌, List, [], ◌∷◌, length, codes, ℤ}
use Rattle.std.specs.Prelude.{bytes_eq, ok_or, Result, Ok, Err}
use Rattle.std.specs.Int.{w64}
use Rattle.std.specs.Int.RustNames.{FitsSigned}
use Rattle.std.specs.Str.Parse.{digits_value}
use Rattle.vms_history.specs.Common.{CpuId}
use Rattle.vms_group_core.specs.declared.call_values.GroupCall.{GroupCall}
use Rattle.vms_group_core.specs.declared.call_values.GroupCall.TheVariants.{Change, Flush, Value}
use Rattle.vms_group_core.specs.Common.{IsGroup, IsTreeCpu}
use Rattle.vms_text.specs.Common.{is_numeral, signed_of, words_of, and_then, most_line, is_ignored, is_clean}
use Rattle.vms_group_lines.specs.declared.causes.GroupCause.{GroupCause}
use Rattle.vms_group_lines.specs.declared.causes.GroupCause.TheVariants.{LineTooLong, Malformed, BadNumber, UnknownLane}
use Rattle.vms_group_lines.specs.declared.headers.GroupHeader.{GroupHeader}
use Rattle.vms_group_lines.specs.declared.lines.GroupLine.{GroupLine}
use Rattle.vms_group_lines.specs.declared.lines.GroupLine.TheVariants.{Blank, Lane, Sync, Report}
use Rattle.vms_group_lines.specs.Headers.{group_field}

-- `c` and a number of any length
abbrev pub is_lane_word : List ℕ → Bool
is_lane_word [] = false
is_lane_word (byte ∷ bytes) = byte == 99 && is_numeral bytes

-- the number after a lane word's first byte
abbrev pub lane_number : List ℕ → ℕ
lane_number [] = 0
lane_number (byte ∷ bytes) = digits_value 10 bytes

-- the CPU of this number
abbrev pub lane_cpu : GroupHeader → ℕ → Result CpuId GroupCause
lane_cpu header n = if nat_lt n header.tree.cpus then Ok (record { number = n }) else Err UnknownLane

-- a signed number of 64 bits
abbrev pub amount_field : List ℕ → Result ℤ GroupCause
amount_field word = ok_or (signed_of word) BadNumber

-- a call on a group by lane n, judged from the left: the lane, the group's name, and what the call has beside it
abbrev pub call_line : GroupHeader → ℕ → List ℕ → (ℕ → Result GroupCall GroupCause) → Result GroupLine GroupCause
call_line header n name call =
    and_then (lane_cpu header n) (λ cpu. and_then (group_field header name) (λ g. and_then (call g) (λ call.
    Ok (Lane cpu call))))

-- the words after lane n's: `flush NAME`, `value NAME` or `add NAME DELTA`
abbrev pub lane_line : GroupHeader → ℕ → List (List ℕ) → Result GroupLine GroupCause
lane_line header n (verb ∷ name ∷ []) =
    if bytes_eq verb (codes "flush") then call_line header n name (λ g. Ok (Flush g))
    else if bytes_eq verb (codes "value") then call_line header n name (λ g. Ok (Value g))
    else Err Malformed
lane_line header n (verb ∷ name ∷ delta ∷ []) =
    if bytes_eq verb (codes "add")
    then call_line header n name (λ g. and_then (amount_field delta) (λ amount. Ok (Change g amount)))
    else Err Malformed
lane_line header n _ = Err Malformed

-- the words of a line between two phases: `sync` or `report groups`
abbrev pub boundary_line : List (List ℕ) → Result GroupLine GroupCause
boundary_line (word ∷ []) = if bytes_eq word (codes "sync") then Ok Sync else Err Malformed
boundary_line (word ∷ kind ∷ []) =
    if bytes_eq word (codes "report") && bytes_eq kind (codes "groups") then Ok Report else Err Malformed
boundary_line _ = Err Malformed

-- what the words of a line say: its first word is a lane's, or that of a boundary line
abbrev pub read_words : GroupHeader → List (List ℕ) → Result GroupLine GroupCause
read_words header [] = Err Malformed
read_words header (first ∷ words) =
    if is_lane_word first then lane_line header (lane_number first) words else boundary_line (first ∷ words)

-- what a line says, or the first cause why nothing
abbrev pub read_group_line : GroupHeader → List ℕ → Result GroupLine GroupCause
read_group_line header line =
    if nat_lt most_line (length line) then Err LineTooLong
    else if is_ignored line then Ok Blank
    else if is_clean line then read_words header (words_of line)
    else Err Malformed

-- what is true of each call that some line says: its numbers are in their ranges
abbrev pub IsGroupCallOf : GroupHeader → GroupCall → Type 0
IsGroupCallOf header (Change g amount) = IsGroup header.tree g × FitsSigned w64 amount
IsGroupCallOf header (Flush g) = IsGroup header.tree g
IsGroupCallOf header (Value g) = IsGroup header.tree g

-- what is true of each line that some text says for a header
abbrev pub IsGroupLineOf : GroupHeader → GroupLine → Type 0
IsGroupLineOf header (Lane cpu call) = IsTreeCpu header.tree cpu.number × IsGroupCallOf header call
IsGroupLineOf header Blank = Unit {0}
IsGroupLineOf header Sync = Unit {0}
IsGroupLineOf header Report = Unit {0}
