-- The lines that are written for refusals, and at the end.
use Rattle.std.specs.Prelude.{ℕ, List, [], ◌∷◌, ◌++◌, codes, decimal}
use Rattle.vms_header.specs.declared.causes.HeaderCause.{HeaderCause}
use Rattle.vms_header.specs.declared.causes.HeaderCause.TheVariants as header_causes
use Rattle.vms_line.specs.declared.causes.LineCause.{LineCause}
use Rattle.vms_line.specs.declared.causes.LineCause.TheVariants as line_causes
use Rattle.vms_header.specs.Common.{Fault}

-- the byte that ends a line
abbrev pub newline : List ℕ
newline = 10 ∷ []

-- the name of a header's cause
abbrev pub header_cause : HeaderCause → List ℕ
header_cause header_causes.BadMagic = codes "BadMagic"
header_cause header_causes.BadNumber = codes "BadNumber"
header_cause header_causes.BadCpus = codes "BadCpus"
header_cause header_causes.NoZone = codes "NoZone"
header_cause header_causes.DoubledZone = codes "DoubledZone"
header_cause header_causes.TooManyZones = codes "TooManyZones"
header_cause header_causes.BadMarks = codes "BadMarks"
header_cause header_causes.UnknownName = codes "UnknownName"
header_cause header_causes.DoubledCounter = codes "DoubledCounter"
header_cause header_causes.BadBatch = codes "BadBatch"
header_cause header_causes.MissingGo = codes "MissingGo"
header_cause header_causes.Malformed = codes "Malformed"
header_cause header_causes.TooManyCounters = codes "TooManyCounters"
header_cause header_causes.LineTooLong = codes "LineTooLong"
header_cause header_causes.DoubledItem = codes "DoubledItem"
header_cause header_causes.TooManyItems = codes "TooManyItems"

-- the name of a line's cause
abbrev pub line_cause : LineCause → List ℕ
line_cause line_causes.Malformed = codes "Malformed"
line_cause line_causes.BadNumber = codes "BadNumber"
line_cause line_causes.UnknownLane = codes "UnknownLane"
line_cause line_causes.UnknownPlace = codes "UnknownPlace"
line_cause line_causes.UnknownItem = codes "UnknownItem"
line_cause line_causes.UnknownCounter = codes "UnknownCounter"
line_cause line_causes.LineTooLong = codes "LineTooLong"
line_cause line_causes.NotOnline = codes "NotOnline"
line_cause line_causes.Overflow = codes "Overflow"
line_cause line_causes.NotDead = codes "NotDead"
line_cause line_causes.NotFolded = codes "NotFolded"
line_cause line_causes.LastCpu = codes "LastCpu"
line_cause line_causes.NotPages = codes "NotPages"

-- `line N: `
abbrev pub line_prefix : ℕ → List ℕ
line_prefix n = codes "line " ++ decimal n ++ codes ": "

-- `line N: CAUSE`, the one line of a refused header
abbrev pub header_line : Fault → List ℕ
header_line fault = line_prefix fault.line ++ header_cause fault.cause ++ newline

-- `line N: refused: CAUSE`
abbrev pub refused_line : ℕ → LineCause → List ℕ
refused_line n cause = line_prefix n ++ codes "refused: " ++ line_cause cause ++ newline

-- `done accepted A refused R`
abbrev pub done_line : ℕ → ℕ → List ℕ
done_line accepted refused =
    codes "done accepted " ++ decimal accepted ++ codes " refused " ++ decimal refused ++ newline
