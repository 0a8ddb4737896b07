-- Which rules a cursor waits for.
use Rattle.std.specs.Prelude.{Option, Some, None}
use Rattle.vms_cursors.specs.declared.burial_positions.BurialPosition.{BurialPosition}
use Rattle.vms_cursors.specs.declared.burial_positions.BurialPosition.TheVariants as burial
use Rattle.vms_cursors.specs.declared.cursors.Cursor.{Cursor}
use Rattle.vms_cursors.specs.declared.cursors.Cursor.TheVariants.{Bury, Rates, Turn}
use Rattle.vms_cursors.specs.declared.rating_calls.RatingCall.{RatingCall}
use Rattle.vms_cursors.specs.declared.rating_calls.RatingCall.TheVariants.{Normal, Pressure, Refresh}
use Rattle.vms_cursors.specs.declared.rating_positions.RatingPosition.{RatingPosition}
use Rattle.vms_cursors.specs.declared.rating_positions.RatingPosition.TheVariants.{Asks}
use Rattle.vms_cursors.specs.declared.turn_positions.TurnPosition.{TurnPosition}
use Rattle.vms_cursors.specs.declared.turn_positions.TurnPosition.TheVariants.{Presses, Settles, Tests}
use Rattle.vms_cursors.specs.declared.turns.Turn.{Turn as TurnOf}
use Rattle.vms_walks.specs.declared.askings.Asking.{Asking}

abbrev pub asking_at : RatingCall → RatingPosition → Option Asking
asking_at call (Asks seen g m) = Some (record { call = call; seen = seen; zone = g })
asking_at call _ = None

abbrev pub asking_of_burial : BurialPosition → Option Asking
asking_of_burial (burial.Folds at) = None
asking_of_burial (burial.Rates at) = asking_at Refresh at

abbrev pub asking_of_turn : TurnOf → TurnPosition → Option Asking
asking_of_turn turn (Presses at) = asking_at (Pressure turn.node) at
asking_of_turn turn (Tests at) = None
asking_of_turn turn (Settles g verdict at) = asking_at (Normal turn.node) at

-- what the rules are asked for, if they are
abbrev pub asking_of : Cursor → Option Asking
asking_of (Rates call at) = asking_at call at
asking_of (Bury c at) = asking_of_burial at
asking_of (Turn turn at) = asking_of_turn turn at
asking_of _ = None
