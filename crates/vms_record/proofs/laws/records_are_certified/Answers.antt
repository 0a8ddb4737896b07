-- What was recorded is the recorded text, in which no line is at fault.
use Rattle.std.proofs.Common.{List, ℕ, length, subst, sym, ◌≤◌}
use Rattle.std.specs.Io.KnownBytes.{IsAtEnd}
use Rattle.vms_certify.specs.KernelRules.{kernel_rules}
use Rattle.vms_certifying.specs.Certificates.{SaysCertify}
use Rattle.vms_stream.specs.Common.{most_bytes}
use Rattle.vms_record.proofs.RecordedTexts.{RecordsItsText-is}
use Rattle.vms_record.proofs.laws.records_are_certified.Goals as goal

pub returns-clause-text : goal.returns-clause-text
returns-clause-text g c = RecordsItsText-is g.S.Source.remaining g.S.Source.calls

pub returns-clause-certified : goal.returns-clause-certified
returns-clause-certified g c = λ status verdict taken written output src src' after whole says within certifies.
    let recorded = RecordsItsText-is g.S.Source.remaining g.S.Source.calls status taken written src src' whole says in (
      recorded.0,
      recorded.1,
      c.recorded_texts_have_no_fault.ensures _ recorded.0 verdict output after recorded.1
          (subst (λ (text : List ℕ). length text ≤ most_bytes) recorded.2 within)
          (subst (λ (text : List ℕ). SaysCertify kernel_rules verdict text output (IsAtEnd after)) recorded.2
          certifies),
    )
