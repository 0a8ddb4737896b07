-- What the command answers, from what its stream does.
use Rattle.std.proofs.Common.{ℕ, List, Option}
use Rattle.vms_stream.specs.declared.statuses.Status.{Status}
use Rattle.vms_stream.specs.Common.{AnswersPhased, TakesAndWrites}
use Rattle.vms_certifying.specs.declared.verdicts.Verdict.{Verdict}
use Rattle.vms_certifying.specs.Answers.{SaysCertified}
use Rattle.vms_certifying.specs.Certifying.{certifying}
use Rattle.vms_certifying.specs.HistoryRules.{HistoryRules}
use Rattle.vms_certifying.specs.JobStates.{shown_nothing}
use Rattle.vms_certifying.proofs.CertifiedTexts.{SaysCertify-phased}

pub SaysCertified-phased : {S K : Type 0} (rules : HistoryRules) (left : S → Option (List ℕ))
    (read_faults read_calls : S → ℕ)
    (held : K → Option (List ℕ)) (write_faults write_calls : K → ℕ) (src src' : S) (out out' : K)
    (made made' : Option (List Verdict)) (status : Status)
    → AnswersPhased (certifying rules) shown_nothing made made' left read_faults read_calls held write_faults
    write_calls src src' out out' status
    → TakesAndWrites left read_faults read_calls held write_faults write_calls src src' out out' status
    (SaysCertified rules)
SaysCertified-phased rules left read_faults read_calls held write_faults write_calls src src' out out' made made' status
    phased =
    let answers = phased.answers in
    record {
      taken = answers.taken;
      written = answers.written;
      consumes = answers.consumes;
      appends = answers.appends;
      answer = record {
        verdicts = phased.outcomes;
        line_by_line = answers.answer;
        by_text = SaysCertify-phased rules phased.outcomes answers.taken answers.written _ status answers.answer;
      };
      reads = answers.reads;
      writes = answers.writes;
    }
