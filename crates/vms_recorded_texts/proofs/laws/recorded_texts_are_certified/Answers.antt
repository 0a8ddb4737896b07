-- With the header that is read, and by the lines of the histories.
use Rattle.std.proofs.Common.{ℕ, [], ◌∷◌, ◌++◌, arith, sym, subst, drop, inl, inr, length, length-append, suc}
use Rattle.std.specs.Prelude.{Result, codes}
use Rattle.vms_world.specs.Common.{Header, lines_of}
use Rattle.vms_header.specs.Common.{Fault}
use Rattle.vms_header.proofs.Common.{read_header-writable}
use Rattle.vms_written_lines.specs.Spelling.{history_line}
use Rattle.vms_history_checks.specs.Accepts.{events_in}
use Rattle.vms_recorded.specs.Histories.{history_lines}
use Rattle.vms_certifying.specs.Certificates.{IsCertified}
use Rattle.vms_certify.specs.KernelRules.{kernel_rules}
use Rattle.vms_trace_parts.specs.Common.{copied_text, copied_under}
use Rattle.vms_recorded_texts.proofs.CertifiedAgain.{certified-again}
use Rattle.vms_recorded_texts.proofs.ShortHistories.{histories-few_bytes, histories-short, sentence-lines}
use Rattle.vms_recorded_texts.proofs.laws.recorded_texts_are_certified.Goals as goal

pub returns-clause-certified : goal.returns-clause-certified
returns-clause-certified c lines hs is short =
    subst (λ (read : Result (Header × ℕ) Fault). IsCertified kernel_rules
    (lines_of (copied_under read lines ++ history_line ++ history_lines hs)) (length hs) (events_in hs) 0)
    (sym is.header_is)
    (certified-again c.lines_have_one_spelling.ensures is.header
    (read_header-writable lines is.header is.count is.header_is) (drop is.count lines) hs (suc is.count) is.recorded
    (c.recorded_histories_are_written.ensures is.header _ hs is.recorded) short)

pub returns-clause-short : goal.returns-clause-short
returns-clause-short c lines hs (inl few) =
    let all = sentence-lines (copied_text lines) (codes "history" ∷ codes "1" ∷ []) (history_lines hs) in
    histories-short hs (omega (arith, all, few))
returns-clause-short c lines hs (inr few) =
    let all = length-append (copied_text lines ++ history_line) (history_lines hs) in
    histories-few_bytes hs (omega (arith, all, few))
