-- For other crates too: what a copy says of its text.
use Rattle.std.proofs.Common.{◌≡◌, ap, ◌∷◌, ℕ, List, [], Option, Some, subst, sym}
use Rattle.std.specs.Io.KnownBytes.{IsAtEnd}
use Rattle.vms_base.specs.declared.headers.Header.{Header}
use Rattle.vms_stream.specs.declared.statuses.Status.{Status}
use Rattle.vms_stream.specs.Common.{AnswersPhased, TakesAndWrites, waiting}
use Rattle.vms_command.specs.Common.{following, shown_given}
use Rattle.vms_trace_parts.specs.Common.{BeginAfter, CopiesTexts, SaysCopied, TracePart, copying, header_in}
use Rattle.vms_trace_parts.specs.Common.{header_at, shown_by_copy}

-- what `copy_trace` answers, by the text
pub TakesAndWrites-copied : {R K : Type 0} (parts : List TracePart) (left : R → Option (List ℕ))
    (read_faults read_calls : R → ℕ) → CopiesTexts left read_calls → (held : K → Option (List ℕ))
    (write_faults write_calls : K → ℕ) (src src' : R) (out out' : K) (status : Status)
    → AnswersPhased (waiting (following copying)) (shown_given shown_by_copy) (Some []) (Some parts) left read_faults
    read_calls
    held write_faults write_calls src src' out out' status
    → TakesAndWrites left read_faults read_calls held write_faults write_calls src src' out out' status
    (λ said taken written reading. SaysCopied parts said taken written reading.at_end)
TakesAndWrites-copied parts left read_faults read_calls copies held write_faults write_calls src src' out out' status
    phased =
    let answers = phased.answers in
    let grows : Some parts ≡ Some phased.outcomes = phased.grows in
    let same : parts ≡ phased.outcomes = cc in
    record {
      taken = answers.taken;
      written = answers.written;
      consumes = answers.consumes;
      appends = answers.appends;
      answer = subst (λ (kept : List TracePart).
          SaysCopied kept status answers.taken answers.written (IsAtEnd (left src'))) (sym same)
          (copies phased.outcomes status answers.taken answers.written src src' answers.answer);
      reads = answers.reads;
      writes = answers.writes;
    }

-- the first part names the header
pub header_in-begin : (header : Header) (parts : List TracePart) → BeginAfter header parts
    → header_in parts ≡ Some header
header_in-begin header [] begins = absurd begins
header_in-begin header (part ∷ parts) begins = ap header_at begins.0
