-- How counters are opened and closed, and handles begun and ended, by what variables of C hold and the status.
use Rattle.std.specs.Prelude.{◌≡◌, ◌⊎◌, ℕ, ◌^◌, ◌<◌, ◌≤◌, ℤ, List, length, Option, Some, None, Result, Ok, Err}
use Rattle.vms_header.specs.Common.{ReadsHeader}
use Rattle.vms_header.specs.declared.causes.HeaderError.{HeaderError}
use Rattle.vms_header.specs.declared.causes.HeaderError.TheVariants.{Bad, Memory}
use Rattle.vms_world.specs.Common.{Header, IsValidSize, ZoneSize, normal_threshold_of, pressure_threshold_of}
use Rattle.vms_counters.specs.declared.closing.Closed.{Closed}
use Rattle.vms_counters.specs.Handles.{AnyHandle}
use Rattle.vms_counters.specs.Opened.{AreClosed, AreOpened, IsOf, Opened}
use Rattle.vms_counters.specs.declared.errors.BeginError.{BeginError}
use Rattle.vozhkell_c.specs.Statuses.{begin_status, handles_out, header_status, header_too_long, in_use, made}
use Rattle.vozhkell_c.specs.Statuses.{no_memory, null}

-- `calculate_normal_threshold` of mm/vmstat.c
abbrev pub normal_rule : ZoneSize → ℕ → ℕ → Type 0
normal_rule size online t = IsValidSize size → 1 ≤ online → online ≤ 128 → t ≡ normal_threshold_of size online

-- `calculate_pressure_threshold` of mm/vmstat.c
abbrev pub pressure_rule : ZoneSize → ℕ → ℕ → Type 0
pressure_rule size online t = IsValidSize size → 1 ≤ online → online ≤ 128 → t ≡ pressure_threshold_of size online

-- a rule that answers by the one or the other
abbrev pub GoesByNormal : (ZoneSize → ℕ → ℕ → Type 0) → Type 0
GoesByNormal answers = (size : ZoneSize) (online t : ℕ) → answers size online t → normal_rule size online t

abbrev pub GoesByPressure : (ZoneSize → ℕ → ℕ → Type 0) → Type 0
GoesByPressure answers = (size : ZoneSize) (online t : ℕ) → answers size online t → pressure_rule size online t

-- counters that were opened with a header and the kernel's normal rule
abbrev pub HoldsOpened : Header → Option Opened → Type 0
HoldsOpened header None = ⊥
HoldsOpened header (Some opened) = AreOpened header normal_rule opened

-- what a text opens: its first line at fault is told with the cause; or memory is lacking; or counters with the header
-- that it has and the kernel's normal thresholds are opened
abbrev pub OpensBy : Result (Header × ℕ × ℕ) HeaderError → Option Opened → ℕ → ℕ → ℤ → Type 0
OpensBy (Err (Bad line cause)) opened after before status =
    (opened ≡ None) × (status ≡ header_status cause) × (after ≡ line)
OpensBy (Err Memory) opened after before status = (opened ≡ None) × (status ≡ no_memory) × (after ≡ before)
OpensBy (Ok found) None after before status = (status ≡ no_memory) × (after ≡ before)
OpensBy (Ok found) (Some opened) after before status =
    (status ≡ made) × (after ≡ before) × AreOpened found.0 normal_rule opened

-- how counters are opened: into a variable that holds nothing, with a text of at most 64 MiB
abbrev pub Opens : List ℕ → Option Opened → Option Opened → ℕ → ℕ → ℤ → Type 0
Opens text new (Some old) after before status = (status ≡ in_use) × (new ≡ Some old) × (after ≡ before)
Opens text new None after before status =
    ((2 ^ 26 < length text) × (status ≡ header_too_long) × (new ≡ None) × (after ≡ before))
    ⊎ ((length text ≤ 2 ^ 26) × (read : Result (Header × ℕ × ℕ) HeaderError) × ReadsHeader text read
    × OpensBy read new after before status)

-- how they are closed: not while a handle is out
abbrev pub Closes : Option Opened → Option Opened → ℤ → Type 0
Closes new None status = (status ≡ null) × (new ≡ None)
Closes None (Some old) status =
    (status ≡ made) × (closed : Closed) × AreClosed old closed
Closes (Some new) (Some old) status = (status ≡ handles_out) × (new ≡ old)

-- how a handle is begun, into a variable that holds nothing
abbrev pub BeginsIn : (Opened → Opened → AnyHandle → Type 0) → (Opened → Opened → BeginError → Type 0)
    → Opened → Opened → Option AnyHandle → Option AnyHandle → ℤ → Type 0
BeginsIn Begins Refuses new old after (Some before) status =
    (status ≡ in_use) × (new ≡ old) × (after ≡ Some before)
BeginsIn Begins Refuses new old (Some handle) None status = (status ≡ made) × Begins new old handle
BeginsIn Begins Refuses new old None None status =
    ((status ≡ no_memory) × (new ≡ old))
    ⊎ ((error : BeginError) × (status ≡ begin_status error) × Refuses new old error)

-- the same of the counters that a variable holds
abbrev pub BeginsFrom : (Opened → Opened → AnyHandle → Type 0) → (Opened → Opened → BeginError → Type 0)
    → Option Opened → Option Opened → Option AnyHandle → Option AnyHandle → ℤ → Type 0
BeginsFrom Begins Refuses new None after before status = (status ≡ null) × (new ≡ None) × (after ≡ before)
BeginsFrom Begins Refuses None (Some old) after before status = ⊥
BeginsFrom Begins Refuses (Some new) (Some old) after before status =
    BeginsIn Begins Refuses new old after before status

-- the handle is one of the counters, where both variables hold something
abbrev pub AreOfEachOther : Option AnyHandle → Option Opened → Type 0
AreOfEachOther (Some handle) (Some opened) = IsOf handle opened
AreOfEachOther (Some handle) None = Unit {0}
AreOfEachOther None opened = Unit {0}

-- how a handle is ended
abbrev pub EndsFrom : (Opened → Opened → AnyHandle → Type 0) → Option Opened → Option Opened → Option AnyHandle
    → Option AnyHandle → ℤ → Type 0
EndsFrom Ends new None after before status = (status ≡ null) × (new ≡ None) × (after ≡ before)
EndsFrom Ends new (Some old) after None status = (status ≡ null) × (new ≡ Some old) × (after ≡ None)
EndsFrom Ends None (Some old) after (Some handle) status = ⊥
EndsFrom Ends (Some new) (Some old) after (Some handle) status =
    (status ≡ made) × (after ≡ None) × Ends new old handle
