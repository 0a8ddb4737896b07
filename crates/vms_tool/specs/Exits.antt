-- The exit status of the program.
use Rattle.std.specs.Prelude.{ℕ}
use Rattle.vms_stream.specs.declared.statuses.Status.{Status}
use Rattle.vms_stream.specs.declared.statuses.Status.TheVariants.{Done, Words, Header, Refused, ReadFault, WriteFault}
use Rattle.vms_stream.specs.declared.statuses.Status.TheVariants.{Memory, NotCertified, TooLong}

-- the exit status of a run, by how its command ended
abbrev pub code_of : Status → ℕ
code_of Done = 0
code_of Words = 1
code_of Header = 2
code_of Refused = 3
code_of ReadFault = 4
code_of WriteFault = 5
code_of Memory = 6
code_of TooLong = 7
code_of NotCertified = 9
