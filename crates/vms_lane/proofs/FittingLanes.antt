-- For other crates too: the lines of the control lane, among those of a phase that fits, bury CPUs that are dead when
-- their lines come.
use Rattle.std.proofs.Common.{◌≡◌, ℕ, cond, List, [], ◌∷◌, map, filter, refl, ap, ◌∙◌, sym, Ok}
use Rattle.std.specs.Prelude.{All}
use Rattle.std.proofs.lemmas.List.Elements.{All-head, All-tail}
use Rattle.vms_world.specs.Common.{Header, CpuId, CpuState, Absent, IsCpu, cpu_at, IsActOf, IsLineOf, state_past}
use Rattle.vms_world.specs.Common.{AreAllowed, Fits, allowed_burial, allowed_from, allowed_of_control, is_lane, Start}
use Rattle.vms_world.specs.Common.{start_past, line_of, Act, Item, Lane as LaneOf, Cpu, Control, Line, acts_of}
use Rattle.vms_base.specs.declared.kinds.CpuState.TheVariants.{Online, Dead as IsDead}
use Rattle.vms_file_order.specs.Common.{HasStates}
use Rattle.vms_text.specs.declared.acts.Act.TheVariants.{Dead}
use Rattle.vms_text.specs.declared.acts.Line.TheVariants.{Lane}
use Rattle.vms_world.specs.declared.worlds.World.{World}
use Rattle.vms_lane.specs.Common.{BuriesTheDead, BuryTheDead}
use Rattle.vms_lane.proofs.ControlledCpus.{buries-same}

-- a line that buries a CPU counts where the CPU is dead
buried-dead : (x : CpuState) (line : Line) → allowed_burial x line ≡ Ok line → x ≡ IsDead
buried-dead IsDead line counts = refl
buried-dead Online line counts = absurd cc
buried-dead Absent line counts = absurd cc

act-buries : (start : Start) (a : Act) → allowed_of_control start a (Lane Control a) ≡ Ok (Lane Control a)
    → BuriesTheDead start.state a
act-buries start (Dead c) counts = buried-dead (start.state c.number) (Lane Control (Dead c)) counts
act-buries start _ counts = tt

-- no line of a CPU's lane buries one
cpu-leaves : (header : Header) (d : CpuId) (a : Act) → IsActOf header (Cpu d) a → (c : ℕ) (x : CpuState)
    → state_past c (Lane (Cpu d) a) x ≡ x
cpu-leaves header d (Dead e) is c x = absurd is.0
cpu-leaves header d _ is c x = refl

module _ (header : Header) where
  allowed-buries : (start : Start) (items : List Item) → All (λ item. IsLineOf header (line_of item)) items
      → AreAllowed header start (map line_of items) → BuryTheDead start.state (acts_of Control items)
  allowed-buries start [] known allowed = tt
  allowed-buries start (item ∷ items) known allowed =
      by item.lane (All-head (λ (i : Item). IsLineOf header (line_of i)) item items known) allowed.0
      (allowed-buries (start_past (line_of item) start) items
      (All-tail (λ (i : Item). IsLineOf header (line_of i)) item items known) allowed.1)
    where
      later : List Item
      later = filter (λ (i : Item). is_lane i.lane Control) items

      by : (lane : LaneOf) → IsLineOf header (Lane lane item.act)
          → allowed_from header start (Lane lane item.act) ≡ Ok (Lane lane item.act)
          → BuryTheDead (λ c. state_past c (Lane lane item.act) (start.state c)) (map (λ (i : Item). i.act) later)
          → BuryTheDead start.state
          (map (λ (i : Item). i.act) (cond (is_lane lane Control) (item ∷ later) later))
      by Control known_line counts rest = (act-buries start item.act counts, rest)
      by (Cpu d) known_line counts rest =
          buries-same (map (λ (i : Item). i.act) later)
          (λ c. state_past c (Lane (Cpu d) item.act) (start.state c)) start.state
          (λ c. cpu-leaves header d item.act known_line.1 c (start.state c)) rest

  pub BuryTheDead-fitting : (start : Start) (items : List Item) → Fits header start items
      → BuryTheDead start.state (acts_of Control items)
  BuryTheDead-fitting start items fits = allowed-buries start items fits.known fits.allowed

  -- states that are the same of each CPU of the layout leave the same to bury
  pub buries-known : (acts : List Act) → All (IsActOf header Control) acts → (s t : ℕ → CpuState)
      → ((c : ℕ) → IsCpu header.layout c → s c ≡ t c) → BuryTheDead s acts → BuryTheDead t acts
  buries-known [] known s t same buries = tt
  buries-known (act ∷ acts) known s t same buries = (
    one act (All-head (IsActOf header Control) act acts known) buries.0,
    buries-known acts (All-tail (IsActOf header Control) act acts known)
        (λ c. state_past c (Lane Control act) (s c)) (λ c. state_past c (Lane Control act) (t c))
        (λ c c_in. ap (state_past c (Lane Control act)) (same c c_in)) buries.1,
  )
    where
      one : (a : Act) → IsActOf header Control a → BuriesTheDead s a → BuriesTheDead t a
      one (Dead c) is dead = sym (same c.number is.1) ∙ dead
      one _ is dead = tt

  -- those of a world in which the CPUs are as the phase's start says
  pub BuryTheDead-world : (start : Start) (w : World) → HasStates header start w → (items : List Item)
      → Fits header start items → All (IsActOf header Control) (acts_of Control items)
      → BuryTheDead (cpu_at w.pages) (acts_of Control items)
  BuryTheDead-world start w states items fits known =
      buries-known (acts_of Control items) known start.state (cpu_at w.pages) (λ c c_in. sym (states c c_in))
      (BuryTheDead-fitting start items fits)
