-- A handle that stays with its counters.
use Rattle.std.specs.Prelude.{◌≡◌}
use Rattle.vms_counters.specs.Handles.{AnyHandle}

-- the handle is of the same counters as before
abbrev pub IsStill : AnyHandle → AnyHandle → Type 0
IsStill new old = new.tables ≡ old.tables
