-- Laws of what a check writes.
use Rattle.std.specs.Prelude.{◌≡◌, ◌≢◌, ◌≤◌, ℕ, suc, List, ◌++◌, length, drop, Some, Ok}
use Rattle.vms_base.specs.declared.headers.Header.{Header}
use Rattle.vms_text.specs.Common.{lines_of}
use Rattle.vms_header.specs.Common.{read_header, header_words, spelled_header}
use Rattle.vms_stream.specs.declared.statuses.Status.TheVariants.{TooLong}
use Rattle.vms_stream.specs.Common.{halted, output}
use Rattle.vms_command.specs.Common.{most_lines, come_to, nothing_above, body_text}
use Rattle.vms_check.specs.Checking.{check, check_output, checking}

-- what a check writes line by line of a text within the limits is its output, which header and body define
abbrev pub WritesItsText : Type 0
WritesItsText = (text : List ℕ) → halted check check.start (lines_of text) ≢ Some TooLong →
    output check (lines_of text) ≡ check_output text

-- a check accepts what it wrote of a header and of the lines of a body: the same header is read, the same lines count,
-- and none is refused
pub record IsAcceptedAgain (header : Header) (n : ℕ) (body : List (List ℕ)) (written : List ℕ) : Type 0 where
  pub same_header : read_header (lines_of written) ≡ Ok (header, length (header_words header))
  pub same_lines : (come_to header nothing_above (drop (length (header_words header)) (lines_of written))).lines
      ≡ (come_to header nothing_above body).lines
  pub none_refused : (come_to header nothing_above (drop (length (header_words header)) (lines_of written))).refused ≡ 0

-- that holds for each text within the limit on lines. Past it a remark with a longer number could be too long a line
abbrev pub ChecksAgain : Type 0
ChecksAgain = (lines : List (List ℕ)) (header : Header) (count : ℕ) → length lines ≤ most_lines →
    read_header lines ≡ Ok (header, count) →
    IsAcceptedAgain header (suc count) (drop count lines)
    (spelled_header header ++ body_text checking header (suc count) (drop count lines))
