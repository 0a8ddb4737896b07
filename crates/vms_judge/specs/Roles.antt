-- What a step does to the passes, as a judge is told it.
use Rattle.vms_history.specs.Passes as passes
use Rattle.vms_judge.specs.declared.roles.Role.{Role}
use Rattle.vms_judge.specs.declared.roles.Role.TheVariants.{Works, Begins, Ends}

-- the role that is told
abbrev pub role_of : Role → passes.Role
role_of Works = passes.Role.Works
role_of (Begins q who) = passes.Role.Begins q who
role_of (Ends q) = passes.Role.Ends q
