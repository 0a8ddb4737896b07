-- The plain sums of page changes.
use Rattle.std.specs.Prelude.{◌≡◌, ℕ, ◌+◌, ◌<◌, ◌≤◌, nat_eq, if◌then◌else◌, ℤ, pos, negsuc, ◌+ℤ◌, List, [], ◌∷◌, ◌++◌}
use Rattle.std.specs.Prelude.{map, All, slice_index_or, length, Option, Some, None, IfSome}
use Rattle.vms_base.specs.declared.ids.CounterId.{CounterId}
use Rattle.vms_base.specs.declared.headers.Header.{Header}
use Rattle.vms_base.specs.Common.{IsCounter, IsCpu, counter_count, most_volume}
use Rattle.vms_text.specs.declared.acts.Act.{Act}
use Rattle.vms_text.specs.declared.acts.Act.TheVariants.{Mod, Inc, Dec}
use Rattle.vms_text.specs.declared.acts.Item.{Item}
use Rattle.vms_text.specs.declared.acts.Line.{Line}
use Rattle.vms_text.specs.declared.acts.Line.TheVariants.{Lane}
use Rattle.vms_line.specs.Common.{IsLineOf}
use Rattle.vms_script.specs.Volumes.{spent_on_counter, volume}

-- what an act changes counter k by, in pages
abbrev pub change_by : ℕ → Act → ℤ
change_by k (Mod counter pages) = if nat_eq counter.number k then pages else pos 0
change_by k (Inc counter) = if nat_eq counter.number k then pos 1 else pos 0
change_by k (Dec counter) = if nat_eq counter.number k then negsuc 0 else pos 0
change_by k _ = pos 0

-- what these lines change it by together
abbrev pub changes_by : ℕ → List Item → ℤ
changes_by k [] = pos 0
changes_by k (item ∷ items) = change_by k item.act +ℤ changes_by k items

-- what the lines of these phases change it by together
abbrev pub changes_by_all : ℕ → List (List Item) → ℤ
changes_by_all k [] = pos 0
changes_by_all k (items ∷ phases) = changes_by k items +ℤ changes_by_all k phases

-- the line that an item keeps
abbrev pub line_of : Item → Line
line_of item = Lane item.lane item.act

-- the lines that the items of these phases keep
abbrev pub lines_of_phases : List (List Item) → List Line
lines_of_phases [] = []
lines_of_phases (items ∷ phases) = map line_of items ++ lines_of_phases phases

-- phases of a body with this header: each item keeps a line of it, and no CPU changes a counter by more than the most
pub record ArePhases (header : Header) (phases : List (List Item)) : Type 0 where
  pub known : All (All (λ item. IsLineOf header (line_of item))) phases
  pub most : (c k : ℕ) → IsCpu header.layout c → IsCounter header.layout k →
      volume (spent_on_counter k) c (lines_of_phases phases) ≤ most_volume

-- the counter that an act changes, and by how many pages
abbrev pub act_change : Act → Option (CounterId × ℤ)
act_change (Mod counter pages) = Some (counter, pages)
act_change (Inc counter) = Some (counter, pos 1)
act_change (Dec counter) = Some (counter, negsuc 0)
act_change _ = None

-- totals that have one of the counter that an act changes
abbrev pub HasTotal : List ℤ → Act → Type 0
HasTotal totals act = IfSome (act_change act) (λ change. change.0.number < length totals)

-- the size of what these lines change counter k by, whatever their lanes
abbrev pub sizes_by : ℕ → List Item → ℕ
sizes_by k [] = 0
sizes_by k (item ∷ items) = spent_on_counter k item.act + sizes_by k items

-- the size of what the lines of these phases change it by
abbrev pub sizes_by_all : ℕ → List (List Item) → ℕ
sizes_by_all k [] = 0
sizes_by_all k (items ∷ phases) = sizes_by k items + sizes_by_all k phases

-- the base of a counter and what the lines of these phases change it by
abbrev pub plain_total : Header → List (List Item) → ℕ → ℤ
plain_total header phases k = slice_index_or header.bases k (pos 0) +ℤ changes_by_all k phases

-- the plain totals by counter
pub record ArePlainTotals (header : Header) (phases : List (List Item)) (totals : List ℤ) : Type 0 where
  pub each : length totals ≡ counter_count header.layout
  pub is : (k : ℕ) → IsCounter header.layout k → slice_index_or totals k (pos 0) ≡ plain_total header phases k
