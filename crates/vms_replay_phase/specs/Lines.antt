-- A line that is made on plain tables: when it may be, and what is known of it then.
use Rattle.std.specs.Prelude.{◌≡◌, ℕ, ◌-◌, ◌⊎◌, [], ◌∷◌, map, Option}
use Rattle.vms_world.specs.Common.{Header, ZoneSize, most_sets, IsLineOf, line_of, Act, Item, Lane}
use Rattle.vms_answers.specs.declared.answers.Answer.{Answer}
use Rattle.vms_file_order.specs.Common.{MayFollow}
use Rattle.vms_plain_lines.specs.Common.{GoesOnIf, PlainStates, LeavesRoomForLanes, SparesPeaks}
use Rattle.vms_plain_control.specs.Common.{HasAllPeaks, SetAtMost, SetsEachAtMost}
use Rattle.vms_text.specs.declared.acts.Line.TheVariants.{Lane as LaneLine}

-- a line of the header may be made on these tables: they leave room for each call of its lane, its act alone is within
-- what a CPU may change, and thresholds and marks may be set twice
pub record MayMakeLine (header : Header) (lane : Lane) (act : Act) (now : PlainStates) : Type 0 where
  pub line : IsLineOf header (LaneLine lane act)
  pub room : LeavesRoomForLanes header (lane ∷ []) now
  pub may : MayFollow now.pages [] lane act
  pub full : HasAllPeaks header.layout now.peaks
  pub sets : SetAtMost header.layout (most_sets - 2) now.pages

-- an act of a lane was made on plain tables: wherever a line of the lane with this act stands next, it goes on to what
-- the tables are then, and tells this answer; and it sets no threshold and no mark, or each at most twice
pub record MakesLine (header : Header) (pressure normal : ZoneSize → ℕ → ℕ → Type 0) (lane : Lane) (act : Act)
    (now next : PlainStates) (answer : Option Answer) : Type 0 where
  pub goes_on : (item : Item) → item.lane ≡ lane → item.act ≡ act → GoesOnIf header pressure normal item
      (λ items. MayFollow now.pages (map line_of items) lane act) now next answer
  pub sets : SparesPeaks act ⊎ SetsEachAtMost header.layout 2 now.pages next.pages
