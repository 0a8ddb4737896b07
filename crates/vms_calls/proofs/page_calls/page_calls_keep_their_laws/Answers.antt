-- Each law holds of every call.
use Rattle.vms_calls.proofs.PageCalls.{page-may, page-spends, page-tells}
use Rattle.vms_calls.proofs.page_calls.page_calls_keep_their_laws.Goals as goal

pub returns : goal.returns
returns g c = record {
  may = page-may g.R.ThresholdRules.pressure g.R.ThresholdRules.normal;
  spends = page-spends g.R.ThresholdRules.pressure g.R.ThresholdRules.normal;
  tells = page-tells g.R.ThresholdRules.pressure g.R.ThresholdRules.normal;
}
