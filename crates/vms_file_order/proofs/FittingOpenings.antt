-- For other crates too: a phase of lines that fit opens for the lanes that have lines.
use Rattle.std.proofs.Common.{◌≡◌, ℕ, Bool, true, false, ◌||◌, List, [], ◌∷◌, ◌++◌, map, refl, ap, subst}
use Rattle.std.specs.Prelude.{All}
use Rattle.vms_world.specs.Common.{Header, ZoneSize, MayOwnCpu, IsLineOf, Fits, is_lane, Start, line_of, Item}
use Rattle.vms_world.specs.Common.{Lane as LaneOf, Cpu, Control, has_line, lanes_of, owner_of}
use Rattle.vms_text.specs.declared.acts.Line.TheVariants.{Lane}
use Rattle.vms_world.specs.declared.worlds.World.{World}
use Rattle.vms_file_order.specs.Common.{MayFollow, IsOpenPhase, opening_states, openings_of, IsStartOf}
use Rattle.vms_file_order.proofs.LaneLists.{All-lanes, StandOnce-lanes, is_lane-same}
use Rattle.vms_file_order.proofs.OpenPhases.{IsOpenPhase-opening}
use Rattle.vms_file_order.proofs.FittingFronts.{known-next}
use Rattle.vms_file_order.proofs.FittingLines.{MayFollow-opening}

-- a line of a lane stands among these
record HasLineOf (lane : LaneOf) (items : List Item) : Type 0 where
  pub front : List Item
  pub item : Item
  pub more : List Item
  pub parts : items ≡ front ++ item ∷ more
  pub is_of : item.lane ≡ lane

HasLineOf-has_line : (lane : LaneOf) (items : List Item) → has_line lane items ≡ true → HasLineOf lane items
HasLineOf-has_line lane [] has = absurd cc
HasLineOf-has_line lane (item ∷ items) has =
    by (is_lane item.lane lane) refl has (HasLineOf-has_line lane items)
  where
    by : (b : Bool) → is_lane item.lane lane ≡ b → (b || has_line lane items) ≡ true
        → (has_line lane items ≡ true → HasLineOf lane items) → HasLineOf lane (item ∷ items)
    by true same either rest = record {
      front = [];
      item = item;
      more = items;
      parts = refl;
      is_of = is_lane-same item.lane lane same;
    }
    by false apart either rest =
        let later = rest either in
        record {
          front = item ∷ later.front;
          item = later.item;
          more = later.more;
          parts = ap (λ is. item ∷ is) later.parts;
          is_of = later.is_of;
        }

-- a phase of lines that fit opens for the lanes that have lines: a CPU that has one is online
module _ (header : Header) (start : Start) (w : World) (is : IsStartOf header start w) (items : List Item)
    (fits : Fits header start items) where
  owner-online : (lane : LaneOf) → has_line lane items ≡ true → MayOwnCpu header.layout w.pages.cpu (owner_of lane)
  owner-online Control has = tt
  owner-online (Cpu c) has =
      let line = HasLineOf-has_line (Cpu c) items has in
      let fitting = subst (Fits header start) line.parts fits in
      let known = known-next header start line.front line.item line.more fitting in
      let follows = MayFollow-opening header start w is line.front line.item line.more fitting in (
        (subst (λ (lane : LaneOf). IsLineOf header (Lane lane line.item.act)) line.is_of known).0,
        (subst (λ (lane : LaneOf). MayFollow w.pages (map line_of line.front) lane line.item.act) line.is_of
            follows).0,
      )

  pub owners-online : All (λ lane. MayOwnCpu header.layout w.pages.cpu (owner_of lane)) (lanes_of header.layout items)
  owners-online =
      All-lanes (λ lane. MayOwnCpu header.layout w.pages.cpu (owner_of lane)) items owner-online header.layout

  pub IsOpenPhase-fitting : (pressure normal : ZoneSize → ℕ → ℕ → Type 0)
      → IsOpenPhase header pressure normal w (lanes_of header.layout items) []
      (openings_of (lanes_of header.layout items)) (opening_states header w)
  IsOpenPhase-fitting pressure normal = IsOpenPhase-opening pressure normal header w (lanes_of header.layout items)
      is.world (StandOnce-lanes header.layout items) owners-online
