-- For other crates too: what the acts of lanes are worth together is what the lines are worth.
use Rattle.std.proofs.Common.{◌≡◌, ◌≢◌, ℕ, suc, Bool, true, false, ℤ, pos, ◌+ℤ◌, List, [], ◌∷◌, ◌++◌, length, map, refl}
use Rattle.std.proofs.Common.{sym, ap, ◌∙◌, arith, if◌then◌else◌}
use Rattle.std.specs.Prelude.{All, filter}
use Rattle.std.proofs.lemmas.Int.{ints}
use Rattle.std.proofs.lemmas.List.Elements.{All-head, All-tail}
use Rattle.vms_world.specs.Common.{sum_below, is_lane, Act, Item, Lane, Cpu, Control, acts_of, is_among, lane_at}
use Rattle.vms_history.proofs.Common.{sum_below-changed, sum_below-zeros}
use Rattle.vms_file_order.specs.Common.{StandOnce, pass_of}
use Rattle.vms_file_order.proofs.Common.{HasPlace-among, is_lane-same, is_lane-self, pass_of-lane_at}

-- what an act of a CPU's lane is worth; one of the control lane is worth nothing
abbrev pub of_cpu : (Act → ℤ) → Lane → Act → ℤ
of_cpu worth (Cpu c) act = worth act
of_cpu worth Control act = pos 0

-- what these acts are worth together
abbrev pub worth_of_acts : (Act → ℤ) → List Act → ℤ
worth_of_acts worth [] = pos 0
worth_of_acts worth (act ∷ acts) = worth act +ℤ worth_of_acts worth acts

pub worth_of_acts-last : (worth : Act → ℤ) (acts : List Act) (act : Act)
    → worth_of_acts worth (acts ++ act ∷ []) ≡ worth_of_acts worth acts +ℤ worth act
worth_of_acts-last worth [] act = omega (arith, ints)
worth_of_acts-last worth (first ∷ acts) act = omega (arith, ints, worth_of_acts-last worth acts act)

-- what these lines are worth together
abbrev pub worth_of_lines : (Lane → Act → ℤ) → List Item → ℤ
worth_of_lines worth [] = pos 0
worth_of_lines worth (item ∷ items) = worth item.lane item.act +ℤ worth_of_lines worth items

-- the acts of a lane, with a line before them
pub acts_of-cons : (lane : Lane) (item : Item) (items : List Item) → acts_of lane (item ∷ items)
    ≡ (if is_lane item.lane lane then item.act ∷ acts_of lane items else acts_of lane items)
acts_of-cons lane item items =
    by (λ i. i.act) (filter (λ i. is_lane i.lane lane) items) (is_lane item.lane lane)
  where
    by : (act : Item → Act) (rest : List Item) (b : Bool)
        → map act (if b then item ∷ rest else rest) ≡ (if b then act item ∷ map act rest else map act rest)
    by act rest true = refl
    by act rest false = refl

module _ (lanes : List Lane) (once : StandOnce lanes) where
  -- the lane at another place than that of a line's lane is another lane
  pub other-lane : (lane : Lane) (place i : ℕ) → pass_of lanes lane ≡ suc place → i ≢ place
      → suc i ≡ pass_of lanes (lane_at lanes i) → is_lane lane (lane_at lanes i) ≡ false
  other-lane lane place i number other own_number = by (is_lane lane (lane_at lanes i)) refl
    where
      by : (b : Bool) → is_lane lane (lane_at lanes i) ≡ b → b ≡ false
      by false is = refl
      by true is =
          let same = ap (pass_of lanes) (is_lane-same lane (lane_at lanes i) is) in
          absurd (other (omega (arith, same, number, own_number)))

  module _ (worth : Lane → Act → ℤ) where
    -- what the acts of the lane at a place are worth
    abbrev pub worth_at : List Item → ℕ → ℤ
    worth_at items n = worth_of_acts (worth (lane_at lanes n)) (acts_of (lane_at lanes n) items)

    at-lane : (item : Item) (items : List Item) (lane : Lane) → lane ≡ item.lane
        → worth_of_acts (worth lane) (acts_of lane (item ∷ items))
        ≡ worth item.lane item.act +ℤ worth_of_acts (worth lane) (acts_of lane items)
    at-lane item items lane is =
        ap (worth_of_acts (worth lane)) (acts_of-cons lane item items)
        ∙ ap (λ (b : Bool). worth_of_acts (worth lane)
        (if b then item.act ∷ acts_of lane items else acts_of lane items))
        (ap (is_lane item.lane) is ∙ is_lane-self item.lane)
        ∙ ap (λ (l : Lane). worth l item.act +ℤ worth_of_acts (worth lane) (acts_of lane items)) is

    apart : (item : Item) (items : List Item) (lane : Lane) → is_lane item.lane lane ≡ false
        → worth_of_acts (worth lane) (acts_of lane (item ∷ items))
        ≡ worth_of_acts (worth lane) (acts_of lane items)
    apart item items lane is =
        ap (worth_of_acts (worth lane)) (acts_of-cons lane item items)
        ∙ ap (λ (b : Bool). worth_of_acts (worth lane)
        (if b then item.act ∷ acts_of lane items else acts_of lane items)) is

    pub worth-lanes : (items : List Item) → All (λ item. is_among item.lane lanes ≡ true) items
        → sum_below (worth_at items) (length lanes) ≡ worth_of_lines worth items
    worth-lanes [] among = sum_below-zeros (worth_at []) (length lanes) (λ n below. refl)
    worth-lanes (item ∷ items) among =
        let at = HasPlace-among lanes item.lane (All-head (λ i. is_among i.lane lanes ≡ true) item items among) in
        let here : worth_at (item ∷ items) at.place ≡ worth item.lane item.act +ℤ worth_at items at.place =
        at-lane item items (lane_at lanes at.place) at.there in
        let changed = sum_below-changed (worth_at items) (worth_at (item ∷ items)) at.place (length lanes) at.below
        (λ i i_in other. apart item items (lane_at lanes i)
        (other-lane item.lane at.place i at.number other (sym (pass_of-lane_at lanes i once i_in).number))) in
        let rest = worth-lanes items (All-tail (λ i. is_among i.lane lanes ≡ true) item items among) in
        omega (arith, ints, here, changed, rest)
