-- Each total is the plain one, so the reports are the same.
use Rattle.vms_report.proofs.Common.{totals_report-same}
use Rattle.vms_total_laws.proofs.runs.runs_report_plain_totals.Goals as goal

pub returns : goal.returns
returns g c header segments hss last valid gives known ascend run =
    let come = c.runs_come_to_plain_totals.ensures in
    totals_report-same header _ _ _ _ _ _ (come.pages header segments hss last valid gives known run)
    (come.events header segments hss last valid gives known run)
    (come.counters header segments hss last valid gives known ascend run)
