-- When the events are a whole phase, by the walks and the registers.
use Rattle.std.proofs.Common.{◌≡◌, ◌≢◌, ℕ, zero, suc, ◌<◌, ◌≤◌, ◌||◌, nat_eq, Bool, true, false, List, [], ◌∷◌, ◌++◌}
use Rattle.std.proofs.Common.{get_or, Option, Some, None, inl, inr, ◌⊎◌, refl, sym, ap, subst, ◌∙◌, arith, eqb-true}
use Rattle.std.proofs.Common.{if◌then◌else◌}
use Rattle.std.specs.Prelude.{IsSome}
use Rattle.std.proofs.lemmas.Bool.Decides.{nat_tests}
use Rattle.vms_world.specs.Common.{Header, CpuId, ZoneSize, State, Act, Item, Lane, Control, Cpu, IsLaneOf, acts_of}
use Rattle.vms_world.specs.Common.{begun_in, has_line, is_among, lanes_below, lanes_of, lives_in, owner_in}
use Rattle.vms_world.specs.Common.{owner_of as owner_of_lane}
use Rattle.vms_core.specs.Pages.{History}
use Rattle.vms_core.specs.Steps.{role}
use Rattle.vms_registers.specs.Slots.{owner_of, slot_of}
use Rattle.vms_registers.proofs.HeldPasses.{owner_of-slot_of, slot_of-within}
use Rattle.vms_file_order.proofs.Common.{is_among-append}
use Rattle.vms_written.specs.Common.{IsWrittenPhase}
use Rattle.vms_written_states.proofs.LinedLanes.{acts-of_lane, lane-of_acts}
use Rattle.vms_phase_checks.specs.declared.checks.PhaseCheck.{PhaseCheck}
use Rattle.vms_phase_checks.specs.Common.{AreOver, Checks, WalksIn, lane_for, lane_in}
use Rattle.vms_phase_checks.proofs.KeptPhases.{IsWrittenPhase-over, lane_for-owner_of, owner_of-lane_for}

either : (a b : Bool) → (a || b) ≡ true → (a ≡ true) ⊎ (b ≡ true)
either true b is = inl refl
either false b is = inr is

-- a CPU whose lane has lines is one of the machine
among-below : (n : ℕ) (c : CpuId) (items : List Item) → is_among (Cpu c) (lanes_below n items) ≡ true → c.number < n
among-below zero c items among = absurd cc
among-below (suc n) c items among =
    by (has_line (Cpu (record { number = n })) items)
    (sym (is_among-append (Cpu c) (lanes_below n items)
    (if has_line (Cpu (record { number = n })) items then Cpu (record { number = n }) ∷ [] else [])) ∙ among)
    (among-below n c items)
  where
    at : (b : Bool) → nat_eq n c.number ≡ b → (b || false) ≡ true → c.number < suc n
    at true same is = let one : n ≡ c.number = eqb-true n c.number same in omega arith
    at false other is = absurd cc

    last : (b : Bool) → is_among (Cpu c) (if b then Cpu (record { number = n }) ∷ [] else []) ≡ true → c.number < suc n
    last true is = at (nat_eq n c.number) refl is
    last false is = absurd cc

    by : (b : Bool) → (is_among (Cpu c) (lanes_below n items)
        || is_among (Cpu c) (if b then Cpu (record { number = n }) ∷ [] else [])) ≡ true
        → (is_among (Cpu c) (lanes_below n items) ≡ true → c.number < n) → c.number < suc n
    by b is below = choose (either (is_among (Cpu c) (lanes_below n items))
        (is_among (Cpu c) (if b then Cpu (record { number = n }) ∷ [] else [])) is)
      where
        choose : (is_among (Cpu c) (lanes_below n items) ≡ true)
            ⊎ (is_among (Cpu c) (if b then Cpu (record { number = n }) ∷ [] else []) ≡ true) → c.number < suc n
        choose (inl earlier) = let less = below earlier in omega (arith, less)
        choose (inr now) = last b now

cpu-known : (header : Header) (items : List Item) (c : CpuId) → is_among (Cpu c) (lanes_of header.layout items) ≡ true
    → c.number < header.layout.cpus
cpu-known header items c among =
    by (has_line Control items) (either (is_among (Cpu c) (lanes_below header.layout.cpus items))
    (is_among (Cpu c) (if has_line Control items then Control ∷ [] else []))
    (sym (is_among-append (Cpu c) (lanes_below header.layout.cpus items)
    (if has_line Control items then Control ∷ [] else [])) ∙ among))
  where
    by : (b : Bool) → (is_among (Cpu c) (lanes_below header.layout.cpus items) ≡ true)
        ⊎ (is_among (Cpu c) (if b then Control ∷ [] else []) ≡ true) → c.number < header.layout.cpus
    by b (inl below) = among-below header.layout.cpus c items below
    by true (inr last) = absurd cc
    by false (inr last) = absurd cc

owner-known : (header : Header) (items : List Item) (lane : Lane) → is_among lane (lanes_of header.layout items) ≡ true
    → (c : CpuId) → owner_of_lane lane ≡ Some c → c.number < header.layout.cpus
owner-known header items (Cpu d) among c is =
    let same : d ≡ c = cc in
    subst (λ (x : CpuId). x.number < header.layout.cpus) same (cpu-known header items d among)
owner-known header items Control among c is = absurd cc

module _ {W : Type 0} (Stands : Header → State → Lane → ℕ → List Act → History → W → Type 0)
    (pressure normal : ZoneSize → ℕ → ℕ → Type 0) (header : Header) (s : State) (items : List Item) (h : History)
    (check : PhaseCheck W) (is : Checks Stands pressure normal header s items h check) where
  abbrev cpus : ℕ
  cpus = header.layout.cpus

  -- a pass of each lane with acts has begun
  abbrev pub HasBegunAll : Type 0
  HasBegunAll = (slot : ℕ) → slot ≤ cpus → get_or check.lanes slot [] ≢ [] → IsSome (get_or check.walks slot None)

  pass-of_walk : (slot : ℕ) (walk : Option W) → WalksIn Stands pressure normal header s items h slot walk → IsSome walk
      → (q : ℕ) × (1 ≤ q) × (q ≤ begun_in role h) × (owner_in role h q ≡ owner_of cpus slot)
  pass-of_walk slot None none some = absurd cc
  pass-of_walk slot (Some walk) (q, least, most, owns, stands) some = (q, least, most, owns)

  walk-of_pass : (slot q : ℕ) → 1 ≤ q → q ≤ begun_in role h → owner_in role h q ≡ owner_of cpus slot
      → (walk : Option W) → WalksIn Stands pressure normal header s items h slot walk → IsSome walk
  walk-of_pass slot q least most owns None none = absurd (none q least most owns)
  walk-of_pass slot q least most owns (Some walk) stands = refl

  pub IsWrittenPhase-whole : HasBegunAll → ((q : ℕ) → lives_in role h q ≡ false)
      → IsWrittenPhase header pressure normal s items h
  IsWrittenPhase-whole all ended = IsWrittenPhase-over pressure normal header s items h is.keeps (record {
    begun = λ lane among.
        let who = owner_of_lane lane in
        let slot = slot_of cpus who in
        let within = slot_of-within cpus who (owner-known header items lane among) in
        let slot-is : owner_of cpus slot ≡ who = owner_of-slot_of cpus who (owner-known header items lane among) in
        let lane-is : lane_in cpus slot ≡ lane = ap lane_for slot-is ∙ lane_for-owner_of lane in
        let has = pass-of_walk slot (get_or check.walks slot None) (is.walks slot within)
        (all slot within (λ none. acts-of_lane header items lane among
        (ap (λ (l : Lane). acts_of l items) (sym lane-is) ∙ sym (is.acts slot within) ∙ none))) in
        (has.0, has.1, has.2, has.3 ∙ slot-is);
    ended = ended;
  })

  -- the lane of a slot is one of the header
  lane-known : (slot : ℕ) → slot ≤ cpus → IsLaneOf header (lane_in cpus slot)
  lane-known slot within = by (nat_eq slot cpus) refl
    where
      by : (b : Bool) → nat_eq slot cpus ≡ b
          → IsLaneOf header (lane_for (if b then None else Some (record { number = slot })))
      by true same = tt
      by false other = grind (arith, nat_tests)

  pub HasBegunAll-written : IsWrittenPhase header pressure normal s items h → HasBegunAll
  HasBegunAll-written written slot within some =
      let lane = lane_in cpus slot in
      let among = lane-of_acts header items lane (lane-known slot within) (λ none. some (is.acts slot within ∙ none)) in
      walk-of_pass slot (written.pass lane) (written.passes.least lane among) (written.passes.most lane among)
      (written.passes.owners lane among ∙ owner_of-lane_for (owner_of cpus slot)) (get_or check.walks slot None)
      (is.walks slot within)
