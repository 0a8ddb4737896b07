-- What room the lines of a phase leave for the change that another makes.
use Rattle.std.specs.Prelude.{◌+◌, ◌≤◌, List, map, unsigned_abs}
use Rattle.vms_calls.specs.declared.page_calls.PageCall.{PageCall}
use Rattle.vms_calls.specs.declared.page_calls.PageCall.TheVariants.{Change}
use Rattle.vms_world.specs.Common.{most_volume, line_of, spent_on_counter, volume, Item, Lane, Cpu}

-- after these lines the CPU of a lane has room for what a call changes
abbrev pub HaveRoomForPages : Lane → PageCall → List Item → Type 0
HaveRoomForPages (Cpu c) (Change k delta how) items =
    volume (spent_on_counter k.number) c.number (map line_of items) + unsigned_abs delta ≤ most_volume
HaveRoomForPages _ _ items = Unit {0}
