-- The names of causes, as they are printed.
use Rattle.std.specs.Prelude.{ℕ, List, codes}
use Rattle.vms_group_lines.specs.declared.causes.GroupCause.{GroupCause}
use Rattle.vms_group_lines.specs.declared.causes.GroupCause.TheVariants as causes

abbrev pub group_cause_name : GroupCause → List ℕ
group_cause_name causes.LineTooLong = codes "LineTooLong"
group_cause_name causes.BadMagic = codes "BadMagic"
group_cause_name causes.Malformed = codes "Malformed"
group_cause_name causes.BadNumber = codes "BadNumber"
group_cause_name causes.UnknownLane = codes "UnknownLane"
group_cause_name causes.BadName = codes "BadName"
group_cause_name causes.UnknownGroup = codes "UnknownGroup"
group_cause_name causes.BadCpus = codes "BadCpus"
group_cause_name causes.DoubledGroup = codes "DoubledGroup"
group_cause_name causes.TooManyGroups = codes "TooManyGroups"
group_cause_name causes.MissingGo = codes "MissingGo"
group_cause_name causes.Overflow = codes "Overflow"
