-- The items of a class, and lines that stand under a heading.
use Rattle.std.specs.Prelude.{ℕ, Bool, List, ◌++◌, codes, take}
use Rattle.std.specs.List.{enumerate_from}
use Rattle.vms_world.specs.Common.{Header, class_names, is_node_place, sentence}

-- the items of the nodes, or else of the zones, as pairs of position and name: first the fixed ones, then the declared
-- ones, as far as a place has positions
abbrev pub items_of : Header → Bool → List (ℕ × List ℕ)
items_of header node = enumerate_from 0 (take header.layout.positions (class_names node header.items))

-- the items of place g
abbrev pub items_at : Header → ℕ → List (ℕ × List ℕ)
items_at header g = items_of header (is_node_place header.layout g)

-- a line under a heading: two blanks before its words
abbrev pub indented : List (List ℕ) → List ℕ
indented words = codes "  " ++ sentence words
