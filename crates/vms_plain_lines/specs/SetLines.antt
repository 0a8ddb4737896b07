-- How often the lines of a phase may have set thresholds and marks.
use Rattle.std.specs.Prelude.{◌*◌, List, length}
use Rattle.vms_world.specs.Common.{Shape, State, Item}
use Rattle.vms_plain_control.specs.Common.{SetAtMost}

-- these lines have set each threshold and each mark at most twice each
abbrev pub SetByLines : Shape → List Item → State → Type 0
SetByLines shape items s = SetAtMost shape (2 * length items) s
