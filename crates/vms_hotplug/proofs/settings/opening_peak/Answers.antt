-- After the last position all differentials are counted.
use Rattle.std.proofs.Common.{◌≡◌, ℕ, max, unsigned_abs, subst, arith}
use Rattle.vms_world.specs.Common.{counter_at, largest_below, diff_at, threshold_at}
use Rattle.vms_hotplug.proofs.settings.opening_peak.Goals as goal

pub returns-clause-value : goal.returns-clause-value
returns-clause-value c =
    let s = c.args.pages.now in
    let cpu = c.args.cpu.number in
    let all : c.loop-position.position ≡ c.args.layout.now.positions = omega (
      arith,
      c.loop-position-test.false,
      c.loop-position.auto.«position-end»,
      c.positions-positions.ensures.value,
    ) in
    subst (λ (m : ℕ). c.loop-position.peak ≡ max (threshold_at s cpu c.args.zone)
    (largest_below (λ n. unsigned_abs (diff_at s cpu (counter_at c.args.layout.now c.args.zone n))) m)) all
    c.loop-position.invariant.value
