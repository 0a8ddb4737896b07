-- The lanes of a written phase in the order in which their passes began, so that what holds of phases in any table's
-- own order holds of it too.
use Rattle.std.proofs.Common.{◌≡◌, ◌≢◌, ℕ, zero, suc, ◌+◌, ◌<◌, ◌≤◌, ◌||◌, Bool, true, false, List, [], ◌∷◌, length}
use Rattle.std.proofs.Common.{refl, sym, ap, subst, ◌∙◌, arith, inl, inr, ◌⊎◌}
use Rattle.std.specs.List.{Contains}
use Rattle.std.proofs.lemmas.Bool.{cases_eq}
use Rattle.vms_world.specs.Common.{Header, CpuId, ZoneSize, IsCpu, State, Act, Item, Lane, Cpu, Control, HasLanes}
use Rattle.vms_world.specs.Common.{MakesActs, MakesLines, PageSteps, acts_of, begun_in, is_among, is_lane, lane_at}
use Rattle.vms_world.specs.Common.{lanes_of, owner_in, owner_of}
use Rattle.vms_core.specs.Pages.{History}
use Rattle.vms_core.specs.Steps.{role}
use Rattle.vms_file_order.specs.Common.{StandOnce}
use Rattle.vms_file_order.proofs.Common.{is_lane-same, is_lane-self, owner_of-injective}
use Rattle.vms_file_order.proofs.BuriedCpus.{control-among}
use Rattle.vms_written.specs.Common.{IsWrittenPhase}
use Rattle.vms_written_states.proofs.LinedLanes.{lane-of_acts}

-- n lanes, by the number of their pass, from this one on
abbrev pub lanes_from : (ℕ → Lane) → ℕ → ℕ → List Lane
lanes_from lane first zero = []
lanes_from lane first (suc n) = lane first ∷ lanes_from lane (suc first) n

module _ (lane : ℕ → Lane) where
  length-lanes_from : (first n : ℕ) → length (lanes_from lane first n) ≡ n
  length-lanes_from first zero = refl
  length-lanes_from first (suc n) = ap suc (length-lanes_from (suc first) n)

  lane_at-from : (first n i : ℕ) → i < n → lane_at (lanes_from lane first n) i ≡ lane (first + i)
  lane_at-from first zero i below = absurd (omega arith)
  lane_at-from first (suc n) zero below = ap lane (omega arith)
  lane_at-from first (suc n) (suc i) below =
      lane_at-from (suc first) n i (omega arith) ∙ ap lane (omega arith)

  -- the lane of each of these passes is among them
  is_among-from : (first n q : ℕ) → first ≤ q → q < first + n → is_among (lane q) (lanes_from lane first n) ≡ true
  is_among-from first zero q least most = absurd (omega arith)
  is_among-from first (suc n) q least most =
      by (cases_eq q first) (λ other. is_among-from (suc first) n q (omega (arith, other)) (omega arith))
    where
      later : (b rest : Bool) → rest ≡ true → (b || rest) ≡ true
      later true rest among = refl
      later false rest among = among

      by : (q ≡ first) ⊎ (q ≢ first) → (q ≢ first → is_among (lane q) (lanes_from lane (suc first) n) ≡ true)
          → (is_lane (lane first) (lane q) || is_among (lane q) (lanes_from lane (suc first) n)) ≡ true
      by (inl same) among = ap (λ b. b || is_among (lane q) (lanes_from lane (suc first) n))
          (ap (λ (r : ℕ). is_lane (lane r) (lane q)) (sym same) ∙ is_lane-self (lane q))
      by (inr other) among =
          later (is_lane (lane first) (lane q)) (is_among (lane q) (lanes_from lane (suc first) n)) (among other)

  -- where no two passes have one lane, each of these lanes stands once
  module _ (last : ℕ) (apart : (q r : ℕ) → 1 ≤ q → q ≤ last → 1 ≤ r → r ≤ last → lane q ≡ lane r → q ≡ r) where
    none-among : (q first n : ℕ) → 1 ≤ q → q < first → first + n ≤ suc last
        → is_among (lane q) (lanes_from lane first n) ≡ false
    none-among q first zero given before most = refl
    none-among q first (suc n) given before most = by (is_lane (lane first) (lane q)) refl
        (none-among q (suc first) n given (omega arith) (omega arith))
      where
        by : (b : Bool) → is_lane (lane first) (lane q) ≡ b
            → is_among (lane q) (lanes_from lane (suc first) n) ≡ false
            → (b || is_among (lane q) (lanes_from lane (suc first) n)) ≡ false
        by true same later =
            let one : first ≡ q = apart first q (omega arith) (omega arith) given (omega arith)
            (is_lane-same (lane first) (lane q) same) in
            absurd (omega arith)
        by false other later = later

    StandOnce-from : (first n : ℕ) → 1 ≤ first → first + n ≤ suc last → StandOnce (lanes_from lane first n)
    StandOnce-from first zero given most = tt
    StandOnce-from first (suc n) given most = (
      none-among first (suc first) n given (omega arith) (omega arith),
      StandOnce-from (suc first) n (omega arith) (omega arith),
    )

-- a written phase
module _ (header : Header) (pressure normal : ZoneSize → ℕ → ℕ → Type 0) (s : State) (items : List Item) (h : History)
    (is : IsWrittenPhase header pressure normal s items h) where
  abbrev pub lanes : List Lane
  lanes = lanes_from is.passes.lane 1 (begun_in role h)

  lane_at-lanes : (n : ℕ) → n < begun_in role h → lane_at lanes n ≡ is.passes.lane (suc n)
  lane_at-lanes n below = lane_at-from is.passes.lane 1 (begun_in role h) n below ∙ ap is.passes.lane (omega arith)

  pub StandOnce-written : StandOnce lanes
  StandOnce-written = StandOnce-from is.passes.lane (begun_in role h)
      (λ q r q_least q_most r_least r_most same.
      sym (is.passes.numbered q q_least q_most) ∙ ap is.pass same ∙ is.passes.numbered r r_least r_most)
      1 (begun_in role h) (omega arith) (omega arith)

  pub HasLanes-written : HasLanes role lanes h
  HasLanes-written = record {
    one_each = sym (length-lanes_from is.passes.lane 1 (begun_in role h));
    owners = λ n below.
        let inside : n < begun_in role h =
        omega (arith, below, length-lanes_from is.passes.lane 1 (begun_in role h)) in
        ap (owner_in role h) (sym (is.passes.numbered (suc n) (omega arith) (omega arith)))
        ∙ is.passes.owners (is.passes.lane (suc n)) (is.passes.among (suc n) (omega arith) (omega arith))
        ∙ ap owner_of (sym (lane_at-lanes n inside));
  }

  pub MakesLines-written : MakesLines (PageSteps header s pressure normal) lanes items h
  MakesLines-written n below =
      let inside : n < begun_in role h =
      omega (arith, below, length-lanes_from is.passes.lane 1 (begun_in role h)) in
      let least : 1 ≤ suc n = omega arith in
      let most : suc n ≤ begun_in role h = omega arith in
      subst (λ (l : Lane). MakesActs (PageSteps header s pressure normal l (suc n)) (suc n) (acts_of l items) h)
      (sym (lane_at-lanes n inside))
      (subst (λ (q : ℕ). MakesActs (PageSteps header s pressure normal (is.passes.lane (suc n)) q) q
      (acts_of (is.passes.lane (suc n)) items) h) (is.passes.numbered (suc n) least most)
      (is.lines (is.passes.lane (suc n)) (is.passes.among (suc n) least most)))

  -- each lane with lines is among them
  has-lane : (lane : Lane) → is_among lane (lanes_of header.layout items) ≡ true → is_among lane lanes ≡ true
  has-lane lane among =
      let q = is.pass lane in
      let least : 1 ≤ q = is.passes.least lane among in
      let most : q ≤ begun_in role h = is.passes.most lane among in
      let own : owner_in role h q ≡ owner_of lane = is.passes.owners lane among in
      let same : is.passes.lane q ≡ lane = owner_of-injective (is.passes.lane q) lane
      (sym (is.passes.owners (is.passes.lane q) (is.passes.among q least most))
      ∙ ap (owner_in role h) (is.passes.numbered q least most) ∙ own) in
      ap (λ l. is_among l lanes) (sym same)
      ∙ is_among-from is.passes.lane 1 (begun_in role h) q least (omega (arith, most))

  pub no_other-written : (c : CpuId) → IsCpu header.layout c.number → is_among (Cpu c) lanes ≡ false
      → acts_of (Cpu c) items ≡ []
  no_other-written c c_in apart = by (acts_of (Cpu c) items) refl
    where
      by : (acts : List Act) → acts_of (Cpu c) items ≡ acts → acts ≡ []
      by [] is = refl
      by (act ∷ acts) is =
          let some : acts_of (Cpu c) items ≢ [] = λ none. let both : act ∷ acts ≡ [] = sym is ∙ none in cc in
          let among = has-lane (Cpu c) (lane-of_acts header items (Cpu c) c_in some) in
          let both : true ≡ false = sym among ∙ apart in
          absurd cc

  pub control-written : (a : Act) → Contains (acts_of Control items) a → is_among Control lanes ≡ true
  control-written a has = has-lane Control (control-among header items a has)
