-- The statuses that functions answer: 0, or a negative number for each cause.
use Rattle.std.specs.Prelude.{ℤ, pos, negsuc, Result, Ok, Err}
use Rattle.vms_counters.specs.declared.errors.BeginError.{BeginError}
use Rattle.vms_counters.specs.declared.errors.BeginError.TheVariants as begin
use Rattle.vms_counters.specs.declared.errors.CallError.{CallError}
use Rattle.vms_counters.specs.declared.errors.CallError.TheVariants as call
use Rattle.vms_header.specs.declared.causes.HeaderCause.{HeaderCause}
use Rattle.vms_header.specs.declared.causes.HeaderCause.TheVariants as header

-- the call was made
abbrev pub made : ℤ
made = pos 0

-- a variable holds nothing
abbrev pub null : ℤ
null = negsuc 0

-- no memory is left
abbrev pub no_memory : ℤ
no_memory = negsuc 1

-- a variable that is to be filled holds something
abbrev pub in_use : ℤ
in_use = negsuc 2

-- a handle hasn't ended
abbrev pub handles_out : ℤ
handles_out = negsuc 4

-- no watermark has such a number
abbrev pub no_mark : ℤ
no_mark = negsuc 16

-- the layout has no such place
abbrev pub no_place : ℤ
no_place = negsuc 17

-- no item of the place has such a name
abbrev pub no_name : ℤ
no_name = negsuc 18

-- a header of more than 64 MiB
abbrev pub header_too_long : ℤ
header_too_long = negsuc 19

-- why no handle was begun
abbrev pub begin_status : BeginError → ℤ
begin_status (begin.NotOnline cpu) = negsuc 5
begin_status (begin.HasHandle cpu) = negsuc 6
begin_status begin.HasControl = negsuc 7
begin_status (begin.Memory lack) = no_memory

-- why a call of a handle made nothing
abbrev pub call_status : CallError → ℤ
call_status (call.NoCounter counter) = negsuc 8
call_status (call.NoItem item) = negsuc 9
call_status (call.NoCpu cpu) = negsuc 10
call_status (call.NoZone zone) = negsuc 11
call_status (call.NoNode node) = negsuc 12
call_status (call.NoZoneIndex index) = negsuc 13
call_status (call.NoOrder order) = negsuc 14
call_status call.TooOften = negsuc 36
call_status (call.TooMuch overflow) = negsuc 15
call_status (call.NoEvent event) = negsuc 37
call_status (call.NoPcpu counter) = negsuc 38
call_status call.TooFar = negsuc 39
call_status call.Held = negsuc 40

-- why a header is refused
abbrev pub header_status : HeaderCause → ℤ
header_status header.BadMagic = negsuc 20
header_status header.BadNumber = negsuc 21
header_status header.BadCpus = negsuc 22
header_status header.NoZone = negsuc 23
header_status header.DoubledZone = negsuc 24
header_status header.TooManyZones = negsuc 25
header_status header.BadMarks = negsuc 26
header_status header.UnknownName = negsuc 27
header_status header.DoubledCounter = negsuc 28
header_status header.BadBatch = negsuc 29
header_status header.MissingGo = negsuc 30
header_status header.Malformed = negsuc 31
header_status header.TooManyCounters = negsuc 32
header_status header.LineTooLong = negsuc 33
header_status header.DoubledItem = negsuc 34
header_status header.TooManyItems = negsuc 35

-- the status of a result
abbrev pub status_of : {V E : Type 0} → (E → ℤ) → Result V E → ℤ
status_of cause (Ok value) = made
status_of cause (Err error) = cause error
