use Rattle.vms_phase.proofs.ReadyJobs.{MayRunJob-fitting}
use Rattle.vms_phase.proofs.rooms.fitting_jobs_may_run.Goals as goal

pub returns : goal.returns
returns c header tables w start items number cpu job is fits c_in job_is =
    MayRunJob-fitting header tables w start items number cpu job is fits c_in job_is
