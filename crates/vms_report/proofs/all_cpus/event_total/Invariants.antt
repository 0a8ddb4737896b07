-- The sum over the CPUs so far.
use Rattle.std.proofs.Common.{◌≡◌, pos}
use Rattle.vms_world.specs.Common.{sum_below, word_at}
use Rattle.vms_report.proofs.all_cpus.event_total.Given as goal

-- the words of the CPUs so far
abbrev pub invariant-loop-number : goal.invariant-loop-number
invariant-loop-number l = pos l.total ≡ sum_below (λ c. pos (word_at l.events c l.event.number)) l.number
