use Rattle.vms_script.proofs.Common.{ArePhases-gave}
use Rattle.vms_stream_trials.proofs.scripts.totals_of.Goals as goal

pub plain_totals-requires-clause-phases : goal.plain_totals-requires-clause-phases
plain_totals-requires-clause-phases c = ArePhases-gave c.args.header.now _ c.args.scripter.now c.requires.gave
