-- The lanes of a phase: which have lines, whose passes they are, and what their callers make of their lines.
use Rattle.std.specs.Prelude.{◌≡◌, ℕ, zero, suc, ◌<◌, ◌||◌, Bool, false, List, [], ◌∷◌, ◌++◌, length, map, filter}
use Rattle.std.specs.Prelude.{if◌then◌else◌, Option, Some, None, slice_index_or}
use Rattle.vms_calls.specs.Common.{CpuId, Shape, Event, after, own, Role, begun_in, owner_in}
use Rattle.vms_text.specs.declared.acts.Act.{Act}
use Rattle.vms_text.specs.declared.acts.Item.{Item}
use Rattle.vms_text.specs.declared.acts.Lane.{Lane}
use Rattle.vms_text.specs.declared.acts.Lane.TheVariants.{Cpu, Control}
use Rattle.vms_script.specs.Common.{is_lane}

-- whether a lane is one of these
abbrev pub is_among : Lane → List Lane → Bool
is_among lane [] = false
is_among lane (l ∷ ls) = is_lane l lane || is_among lane ls

-- whether some line is of this lane
abbrev pub has_line : Lane → List Item → Bool
has_line lane [] = false
has_line lane (item ∷ items) = is_lane item.lane lane || has_line lane items

-- the lanes of the CPUs below n that have lines, in ascending order
abbrev pub lanes_below : ℕ → List Item → List Lane
lanes_below zero items = []
lanes_below (suc n) items = lanes_below n items
    ++ (if has_line (Cpu (record { number = n })) items then Cpu (record { number = n }) ∷ [] else [])

-- the lanes that have lines: those of the CPUs, and the control lane last
abbrev pub lanes_of : Shape → List Item → List Lane
lanes_of shape items = lanes_below shape.cpus items ++ (if has_line Control items then Control ∷ [] else [])

-- the CPU that the pass of a lane owns
abbrev pub owner_of : Lane → Option CpuId
owner_of (Cpu c) = Some c
owner_of Control = None

-- the acts of a lane, in order
abbrev pub acts_of : Lane → List Item → List Act
acts_of lane items = map (λ item. item.act) (filter (λ item. is_lane item.lane lane) items)

-- lane n of these, counted from 0
abbrev pub lane_at : List Lane → ℕ → Lane
lane_at lanes n = slice_index_or lanes n Control

module _ {K : Type 0} where
  -- a pass began for each of these lanes and no other, the first under number 1, and owns the lane's CPU
  pub record HasLanes (role : K → Role) (lanes : List Lane) (h : List (Event K)) : Type 0 where
    pub one_each : begun_in role h ≡ length lanes
    pub owners : (n : ℕ) → n < length lanes → owner_in role h (suc n) ≡ owner_of (lane_at lanes n)

  -- caller p has made these acts, one after another, and nothing else: `makes` says which steps an act may make where
  -- it begins in a history
  pub data MakesActs (makes : Act → List (Event K) → List K → Type 0) (p : ℕ) : List Act → List (Event K) → Type 0 where
    none : (h : List (Event K)) → own h p ≡ [] → MakesActs makes p [] h
    act : (acts : List Act) (next : Act) (h more : List (Event K)) (steps : List K) → MakesActs makes p acts h
        → makes next h steps → own (more ++ h) p ≡ after p steps (own h p)
        → MakesActs makes p (acts ++ next ∷ []) (more ++ h)

  -- each lane's pass has made the acts of its lines
  abbrev pub MakesLines : (Lane → ℕ → Act → List (Event K) → List K → Type 0) → List Lane → List Item → List (Event K)
      → Type 0
  MakesLines makes lanes items h = (n : ℕ) → n < length lanes →
      MakesActs (makes (lane_at lanes n) (suc n)) (suc n) (acts_of (lane_at lanes n) items) h
