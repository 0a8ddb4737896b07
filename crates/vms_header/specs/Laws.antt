-- Laws of headers, each for every text and header.
use Rattle.std.specs.Prelude.{◌≡◌, ℕ, ◌^◌, ◌+◌, ◌≤◌, List, ◌++◌, length, All, Result, Ok, Err}
use Rattle.vms_base.specs.declared.headers.Header.{Header}
use Rattle.vms_base.specs.Common.{IsHeader}
use Rattle.vms_text.specs.Common.{lines_of}
use Rattle.vms_header.specs.Stages.{Fault, read_header}
use Rattle.vms_header.specs.Spelling.{spelled_header, header_words}

-- what a text can say of a header: the sizes of a header may be larger elsewhere
pub record IsWritable (header : Header) : Type 0 where
  pub is_header : IsHeader header
  pub marks_most : All (λ size. size.high ≤ 2 ^ 40) header.sizes

-- every header that is read can be written
abbrev pub HeadersAreWritable : Type 0
HeadersAreWritable =
    (lines : List (List ℕ)) (header : Header) (count : ℕ) → read_header lines ≡ Ok (header, count) → IsWritable header

-- what is spelled of a header is read back as that header, whatever lines follow it
abbrev pub HeadersReadBack : Type 0
HeadersReadBack = (header : Header) (more : List (List ℕ)) → IsWritable header →
    read_header (lines_of (spelled_header header) ++ more) ≡ Ok (header, length (header_words header))

-- what reading a header answers is settled by the lines that it rests on: those of the header, or those up to the fault
abbrev pub IsSettled : List (List ℕ) → Result (Header × ℕ) Fault → Type 0
IsSettled lines (Ok found) =
    (1 ≤ found.1) × (found.1 ≤ length lines) × ((more : List (List ℕ)) → read_header (lines ++ more) ≡ Ok found)
IsSettled lines (Err fault) =
    (1 ≤ fault.line) × (fault.line ≤ length lines + 1)
    × (fault.line ≤ length lines → (more : List (List ℕ)) → read_header (lines ++ more) ≡ Err fault)

abbrev pub HeaderIsSettled : Type 0
HeaderIsSettled = (lines : List (List ℕ)) → IsSettled lines (read_header lines)
