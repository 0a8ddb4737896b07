-- What a CPU spends on percpu counters in a phase is the sizes of what its lines add, by their answers.
use Rattle.std.proofs.Common.{◌≡◌, ℕ, suc, ◌<◌, nat_eq, Bool, true, false, ℤ, pos, unsigned_abs, List, [], ◌∷◌, length}
use Rattle.std.proofs.Common.{map, Option, Some, None, refl, sym, ap, ◌∙◌, arith, if◌then◌else◌, eqb-true}
use Rattle.std.specs.List.Sorted.{IsStrictlyIncreasing}
use Rattle.std.proofs.lemmas.Int.{ints}
use Rattle.std.proofs.lemmas.List.Sums.{sum_by-cons}
use Rattle.vms_world.specs.Common.{Header, CpuId, own, owner_in, sum_below, PcpuFacts, percpu, own_added, size_of, Act}
use Rattle.vms_world.specs.Common.{is_lane, Item, Lane, Cpu, Control, HasLanes, MakesActs, MakesLines, acts_of, lane_at}
use Rattle.vms_world.specs.Common.{lanes_of, owner_of, TableHistories, pcpu_facts}
use Rattle.vms_history.proofs.Common.{owner_is_given, sum_below-same}
use Rattle.vms_pcpu_core.specs.Histories.{IsLegal}
use Rattle.vms_pcpu_core.specs.Laws.{spent_by_pass}
use Rattle.vms_pcpu_core.specs.Steps.{role}
use Rattle.vms_pcpu_core.specs.Totals.{is_owned, spent}
use Rattle.vms_pcpu_core.proofs.Common.{laws-kept, sizes-after}
use Rattle.vms_world.specs.declared.worlds.World.{World}
use Rattle.vms_file_order.specs.Common.{pass_of, pcpu_makes}
use Rattle.vms_file_order.proofs.Common.{StandOnce-lanes, pass_of-lane_at}
use Rattle.vms_answers.specs.Common.{LaneSteps, NumberedAnswer, answers_of, read_act, steps_of}
use Rattle.vms_total_laws.specs.Common.{AreLinesOf, amount_added, answer_at}
use Rattle.vms_total_laws.proofs.Common.{added-by_pass, added_of_acts, sum_below-first, worth-lines, worth_at, worth_by}
use Rattle.vms_total_laws.proofs.Common.{worth_of_lane}
use Rattle.vms_spending_laws.specs.Common.{sizes_by}

-- what an amount is worth of a line of some lane: its size for the lane of this CPU, and else nothing
abbrev size_for : CpuId → Lane → ℤ → ℤ
size_for cpu lane amount = if is_lane lane (Cpu cpu) then size_of amount else pos 0

nothing-for : (cpu : CpuId) (lane : Lane) → size_for cpu lane (pos 0) ≡ pos 0
nothing-for cpu lane = by (is_lane lane (Cpu cpu))
  where
    by : (b : Bool) → (if b then size_of (pos 0) else pos 0) ≡ pos 0
    by true = refl
    by false = refl

is_owned-some : (who : Option CpuId) (c : ℕ) → is_owned who c ≡ true → who ≡ Some (record { number = c })
is_owned-some (Some d) c is = let numbers : d.number ≡ c = eqb-true d.number c is in
    ap (λ n. let who : Option CpuId = Some (record { number = n }) in who) numbers
is_owned-some None c is = absurd cc

module _ (header : Header) (w : World) (cpu : CpuId) (j : ℕ) where
  abbrev facts : PcpuFacts
  facts = pcpu_facts header w

  -- acts of a lane of which nothing counts are worth nothing
  none-added : (c : CpuId) (acts : List Act) (s : LaneSteps)
      → added_of_acts header w j c (λ amount. pos 0) acts s ≡ pos 0
  none-added c [] s = refl
  none-added c (a ∷ acts) s = omega (arith, ints, none-added c acts (read_act header w (Cpu c) a s).1)

  -- what the lines are worth is the sizes of what they add
  worth-sizes : (answers : List NumberedAnswer) (items : List Item)
      → worth_by header w j (size_for cpu) answers items ≡ pos (sizes_by cpu j answers items)
  worth-sizes answers [] = refl
  worth-sizes answers (item ∷ items) =
      let size : Item → ℕ = λ line. if is_lane line.lane (Cpu cpu)
      then unsigned_abs (amount_added j line.act (answer_at line.number answers)) else 0 in
      omega (
        arith,
        ints,
        by (is_lane item.lane (Cpu cpu)) (amount_added j item.act (answer_at item.number answers)),
        worth-sizes answers items,
        sum_by-cons size item items,
      )
    where
      by : (b : Bool) (amount : ℤ)
          → (if b then size_of amount else pos 0) ≡ pos (if b then unsigned_abs amount else 0)
      by true amount = refl
      by false amount = refl

  module _ (items : List Item) (hs : TableHistories) (legal : IsLegal facts hs.counters)
      (lanes_are : HasLanes role (lanes_of header.layout items) hs.counters)
      (lines : MakesLines (pcpu_makes facts) (lanes_of header.layout items) items hs.counters) where
    abbrev lanes : List Lane
    lanes = lanes_of header.layout items

    -- the main pass owns no CPU
    main-none : spent_by_pass hs.counters cpu.number j 0 ≡ pos 0
    main-none = by (is_owned (owner_in role hs.counters 0) cpu.number) refl
      where
        by : (b : Bool) → is_owned (owner_in role hs.counters 0) cpu.number ≡ b
            → (if b then own_added size_of j (own hs.counters 0) else pos 0) ≡ pos 0
        by true owned = absurd (omega (
          arith,
          (owner_is_given percpu facts hs.counters 0 cpu legal
              (is_owned-some (owner_in role hs.counters 0) cpu.number owned)).0,
        ))
        by false other = refl

    -- the pass of a lane spends what the lane's acts are worth
    lane-spends : (n : ℕ) → n < length lanes → (lane : Lane) → lane_at lanes n ≡ lane
        → MakesActs (pcpu_makes facts lane (suc n)) (suc n) (acts_of lane items) hs.counters
        → pass_of lanes lane ≡ suc n
        → (if is_owned (owner_of lane) cpu.number then own_added size_of j (own hs.counters (suc n)) else pos 0)
        ≡ worth_of_lane header w j (size_for cpu) lane (acts_of lane items) (steps_of lanes hs lane)
    lane-spends n below (Cpu c) is made number = by (nat_eq c.number cpu.number)
      where
        by : (b : Bool) → (if b then own_added size_of j (own hs.counters (suc n)) else pos 0)
            ≡ added_of_acts header w j c (λ amount. if b then size_of amount else pos 0) (acts_of (Cpu c) items)
            (steps_of lanes hs (Cpu c))
        by true = added-by_pass header w j size_of refl sizes-after lanes n c items hs made number
        by false = sym (none-added c (acts_of (Cpu c) items) (steps_of lanes hs (Cpu c)))
    lane-spends n below Control is made number = refl

    pub counters-spend_sizes : AreLinesOf header items → IsStrictlyIncreasing (map (λ item. item.number) items)
        → spent hs.counters cpu.number j ≡ sizes_by cpu j (answers_of header w items hs) items
    counters-spend_sizes known ascend =
        let h = hs.counters in
        let by_pass = (laws-kept facts [] h legal).volumes.by_pass cpu.number j in
        let first = sum_below-first (spent_by_pass h cpu.number j) (length lanes) in
        let many = ap (λ n. sum_below (spent_by_pass h cpu.number j) (suc n)) lanes_are.one_each in
        let lane_by_lane = sum_below-same (λ n. spent_by_pass h cpu.number j (suc n))
        (worth_at header w j (size_for cpu) lanes items (steps_of lanes hs)) (length lanes) (λ n below.
        ap (λ (who : Option CpuId). if is_owned who cpu.number then own_added size_of j (own h (suc n)) else pos 0)
        (lanes_are.owners n below)
        ∙ lane-spends n below (lane_at lanes n) refl (lines n below)
        (pass_of-lane_at lanes n (StandOnce-lanes header.layout items) below).number) in
        let worth = worth-lines header w j (size_for cpu) (nothing-for cpu) items known ascend hs in
        omega (
          arith,
          ints,
          by_pass,
          many,
          first,
          main-none,
          lane_by_lane,
          worth,
          worth-sizes (answers_of header w items hs) items,
        )
