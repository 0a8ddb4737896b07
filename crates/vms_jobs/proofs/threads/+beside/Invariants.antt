-- Each call has fewer jobs.
use Rattle.std.proofs.Common.{◌+◌, ◌*◌}
use Rattle.vms_jobs.proofs.threads.+beside.Given as goal

abbrev pub decreases-call_beside : goal.decreases-call_beside
decreases-call_beside g l = 2 * l.jobs.len

abbrev pub decreases-there : goal.decreases-there
decreases-there g l = 2 * l.last.len + 1

abbrev pub decreases-here : goal.decreases-here
decreases-here g l = 2 * l.jobs.len + 1
