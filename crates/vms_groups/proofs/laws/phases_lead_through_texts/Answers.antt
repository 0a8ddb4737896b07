use Rattle.vms_groups.proofs.LedTexts.{TextsLeadOn-holds}
use Rattle.vms_groups.proofs.laws.phases_lead_through_texts.Goals as goal

pub returns : goal.returns
returns c = TextsLeadOn-holds c.group_phases_keep_laws.ensures
