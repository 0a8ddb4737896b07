-- What room the lines of a phase leave for the events that another counts.
use Rattle.std.specs.Prelude.{◌+◌, ◌≤◌, List, map}
use Rattle.vms_world.specs.Common.{EventCall, Count, most_volume, line_of, spent_on_event, volume, Item, Lane, Cpu}

-- after these lines the CPU of a lane has room for what a call counts
abbrev pub HaveRoomForEvents : Lane → EventCall → List Item → Type 0
HaveRoomForEvents (Cpu c) (Count k n) items =
    volume (spent_on_event k.number) c.number (map line_of items) + n ≤ most_volume
HaveRoomForEvents _ _ items = Unit {0}
