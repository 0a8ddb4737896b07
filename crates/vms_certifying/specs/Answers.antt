-- What the command answers.
use Rattle.std.specs.Prelude.{ℕ, List}
use Rattle.vms_stream.specs.Common.{Reading, SaysPhased}
use Rattle.vms_stream.specs.declared.statuses.Status.{Status}
use Rattle.vms_certifying.specs.declared.verdicts.Verdict.{Verdict}
use Rattle.vms_certifying.specs.Certificates.{SaysCertify}
use Rattle.vms_certifying.specs.Certifying.{certifying}
use Rattle.vms_certifying.specs.HistoryRules.{HistoryRules}
use Rattle.vms_certifying.specs.JobStates.{shown_nothing}

-- what a status says of what was taken and written: by the behavior of the command from line to line, with the verdicts
-- on the lines of the history, and by the text
pub record SaysCertified (rules : HistoryRules) (status : Status) (taken written : List ℕ) (reading : Reading)
    : Type 0 where
  pub verdicts : List Verdict
  pub line_by_line : SaysPhased (certifying rules) shown_nothing verdicts status taken written reading
  pub by_text : SaysCertify rules status taken written reading.at_end
