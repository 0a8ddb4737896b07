-- The calls of the control lane on plain tables, as its lines make them.
use Rattle.std.proofs.Common.{◌≡◌, ℕ, true, List, Option, ◌∙◌}
use Rattle.vms_world.specs.Common.{Header, ZoneSize, Item, Lane, is_among, TableHistories}
use Rattle.vms_world.specs.declared.worlds.World.{World}
use Rattle.vms_answers.specs.declared.answers.Answer.{Answer}
use Rattle.vms_plain_lines.specs.Common.{GoesOnKnowing, StandsNext, GoesOnTelling, PlainStates, StandsInPhase}
use Rattle.vms_plain_lines.specs.Common.{in_tables}

module _ (pressure normal : ZoneSize → ℕ → ℕ → Type 0) (header : Header) (w : World) (lanes : List Lane)
    (items : List Item) (hs : TableHistories) (now : PlainStates) (item : Item)
    (stands : StandsInPhase header pressure normal w lanes items hs now) (among : is_among item.lane lanes ≡ true) where
  -- the line stands next
  pub StandsNext-among : StandsNext header pressure normal w lanes items hs (in_tables now) item
  StandsNext-among = record { opened = stands.opened; once = stands.once; among = among }

  -- a line of the control lane goes on to tables that know its peaks
  pub GoesOnTelling-knowing : (next : PlainStates) (answer : Option Answer) → next.opening ≡ now.opening
      → GoesOnKnowing header pressure normal w lanes item hs (in_tables next) next.peaks answer
      → GoesOnTelling header pressure normal w lanes item hs next answer
  GoesOnTelling-knowing next answer same knowing = record {
    line = knowing.line;
    peaks = knowing.known;
    opening = same ∙ stands.opening;
    tells = knowing.tells;
  }
