-- The verdicts that were given so far.
use Rattle.std.specs.Prelude.{List, ◌++◌, replicate}
use Rattle.vms_stream.specs.Common.{at_most_one}
use Rattle.vms_certifying.specs.declared.verdicts.Verdict.{Verdict}
use Rattle.vms_certifying.specs.declared.verdicts.Verdict.TheVariants.{Taken}
use Rattle.vms_certifying.specs.declared.verdicts.Verdicts.{Verdicts}

-- the lines that were taken, and the last verdict if there is one
abbrev pub verdicts_of : Verdicts → List Verdict
verdicts_of verdicts = replicate verdicts.taken Taken ++ at_most_one verdicts.last
