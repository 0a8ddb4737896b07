-- The rule of a place for one answer: a word, and a slot.
use Rattle.std.specs.Prelude.{◌≡◌, ◌∷◌, [], Option, Some, None, slice_index, length}
use mathlib.Core.Option.{some}
use lib.ListN.{get_elem?}
use Rattle.atomic_table.specs.Table.{State, Me}

module _ {D V : Type 0} where
  -- where the word is 0, the slot is at home and empty; where it is 2, an answer that fits lies in it
  pub record Keeps (fits : D → Type 0) (s : State (Option D) V) : Type 0 where
    pub one : length s.words ≡ 1
    pub empty : slice_index s.words 0 ≡ 0 → get_elem? s.homes 0 ≡ some (some None)
    pub full : slice_index s.words 0 ≡ 2 → (done : D) × (get_elem? s.homes 0 ≡ some (some (Some done))) × fits done

  -- the seat has the slot, with this in it
  abbrev pub HasSlot : Me (Option D) V → Type 0
  HasSlot m = (held : Option D) × (m.1 ≡ (0, held) ∷ [])

  abbrev pub HasAnswer : (D → Type 0) → Me (Option D) V → Type 0
  HasAnswer fits m = (done : D) × (m.1 ≡ (0, Some done) ∷ []) × fits done
