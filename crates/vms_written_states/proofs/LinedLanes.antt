-- For other crates too: a lane is among those with lines exactly if it has acts.
use Rattle.std.proofs.Common.{◌≡◌, ◌≢◌, ◌||◌, Bool, true, false, List, [], ◌∷◌, map, refl, ap, ◌∙◌, if◌then◌else◌}
use Rattle.std.specs.Prelude.{filter}
use Rattle.std.proofs.lemmas.List.Elements.{All-get_or}
use Rattle.vms_world.specs.Common.{Header, Act, Item, Lane, Control, IsLaneOf, acts_of, has_line, is_among, is_lane}
use Rattle.vms_world.specs.Common.{lanes_of}
use Rattle.vms_file_order.proofs.LaneLists.{All-lanes}
use Rattle.vms_file_order.proofs.Common.{HasPlace-among, among-lanes}

-- a lane with a line has an act
act-of_line : (lane : Lane) (items : List Item) → has_line lane items ≡ true → acts_of lane items ≢ []
act-of_line lane [] has = absurd cc
act-of_line lane (item ∷ items) has =
    by (λ i. i.act) (filter (λ i. is_lane i.lane lane) items) (is_lane item.lane lane) has (act-of_line lane items)
  where
    by : (act : Item → Act) (rest : List Item) (b : Bool) → (b || has_line lane items) ≡ true
        → (has_line lane items ≡ true → map act rest ≢ []) → map act (if b then item ∷ rest else rest) ≢ []
    by act rest true has later none = absurd cc
    by act rest false has later none = later has none

-- and one with an act has a line
line-of_act : (lane : Lane) (items : List Item) → acts_of lane items ≢ [] → has_line lane items ≡ true
line-of_act lane [] some = absurd (some refl)
line-of_act lane (item ∷ items) some =
    by (λ i. i.act) (filter (λ i. is_lane i.lane lane) items) (is_lane item.lane lane) some (line-of_act lane items)
  where
    by : (act : Item → Act) (rest : List Item) (b : Bool) → map act (if b then item ∷ rest else rest) ≢ []
        → (map act rest ≢ [] → has_line lane items ≡ true) → (b || has_line lane items) ≡ true
    by act rest true some later = refl
    by act rest false some later = later some

module _ (header : Header) (items : List Item) (lane : Lane) where
  pub acts-of_lane : is_among lane (lanes_of header.layout items) ≡ true → acts_of lane items ≢ []
  acts-of_lane among none =
      let at = HasPlace-among (lanes_of header.layout items) lane among in
      let all = All-lanes (λ (l : Lane). acts_of l items ≢ []) items (λ l has. act-of_line l items has) header.layout in
      All-get_or (λ (l : Lane). acts_of l items ≢ []) (lanes_of header.layout items) at.place Control at.below all
      (ap (λ (l : Lane). acts_of l items) at.there ∙ none)

  pub lane-of_acts : IsLaneOf header lane → acts_of lane items ≢ []
      → is_among lane (lanes_of header.layout items) ≡ true
  lane-of_acts known some = among-lanes header items lane known (line-of_act lane items some)
