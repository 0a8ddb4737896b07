-- No boundary changes what a counter adds up to.
use Rattle.vms_world.proofs.Crossings.{total-crossed}
use Rattle.vms_world.proofs.laws.boundaries_keep_totals.Goals as goal

pub returns : goal.returns
returns g c header boundary w next of crosses k k_in =
    total-crossed header g.R.ThresholdRules.normal w next of boundary crosses k k_in
