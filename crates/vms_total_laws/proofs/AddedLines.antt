-- For other crates too: what the lines of a phase add to a percpu counter, by their answers, is what its lanes add.
use Rattle.std.proofs.Common.{◌≡◌, ℕ, suc, ◌<◌, nat_eq, Bool, true, false, ℤ, pos, ◌+ℤ◌, List, [], ◌∷◌, length, map}
use Rattle.std.proofs.Common.{reverse, Option, Some, None, get_or, refl, sym, ap, subst, ◌∙◌, arith, if◌then◌else◌}
use Rattle.std.proofs.Common.{append-nil}
use Rattle.std.specs.Prelude.{All}
use Rattle.std.specs.List.Sorted.{IsStrictlyIncreasing}
use Rattle.std.proofs.lemmas.Bool.Decides.{nat_tests}
use Rattle.std.proofs.lemmas.Int.{ints}
use Rattle.std.proofs.lemmas.List.Elements.{All-head, All-tail}
use Rattle.std.proofs.lemmas.List.Kept.{AllPairs-from_increasing}
use Rattle.vms_world.specs.Common.{Header, CpuId, own, sum_below, own_added, IsActOf, IsLineOf, is_lane, line_of, Act}
use Rattle.vms_world.specs.Common.{Cnt, Lim, Item, Lane, Cpu, Control, MakesActs, acts_of, is_among, lane_at, lanes_of}
use Rattle.vms_world.specs.Common.{TableHistories, pcpu_facts}
use Rattle.vms_history.proofs.Common.{sum_below-changed, sum_below-zeros}
use Rattle.vms_world.specs.declared.worlds.World.{World}
use Rattle.vms_file_order.specs.Common.{StandOnce, pass_of, pcpu_makes}
use Rattle.vms_file_order.proofs.Common.{HasPlace-among, StandOnce-lanes, is_lane-self, pass_of-lane_at}
use Rattle.vms_answers.specs.declared.answers.Answer.{Answer}
use Rattle.vms_answers.specs.Common.{LaneSteps, read_act, NumberedAnswer, answers_of, read_lines, steps_by, steps_of}
use Rattle.vms_answers.specs.Common.{with_answer, with_left}
use Rattle.vms_total_laws.specs.Common.{AreLinesOf, amount_added, answer_at}
use Rattle.vms_total_laws.proofs.KnownLines.{among-known}
use Rattle.vms_total_laws.proofs.LaneSums.{acts_of-cons, other-lane}
use Rattle.vms_total_laws.proofs.PcpuReadings.{AddsParts, TellsLane-made, added_of_acts}

-- each of these lines has a higher number
abbrev AreAfter : ℕ → List Item → Type 0
AreAfter n [] = Unit {0}
AreAfter n (item ∷ items) = (n < item.number) × AreAfter n items

-- and so each after those before it
abbrev Ascend : List Item → Type 0
Ascend [] = Unit {0}
Ascend (item ∷ items) = AreAfter item.number items × Ascend items

are-after : (n : ℕ) (items : List Item)
    → ((k : ℕ) → k < length (map (λ item. item.number) items) → n < get_or (map (λ item. item.number) items) k 0)
    → AreAfter n items
are-after n [] each = tt
are-after n (item ∷ items) each =
    (each 0 (omega arith), are-after n items (λ k within. each (suc k) (omega arith)))

ascend-pairs : (items : List Item) → ((i k : ℕ) → i < k → k < length (map (λ item. item.number) items)
    → get_or (map (λ item. item.number) items) i 0 < get_or (map (λ item. item.number) items) k 0) → Ascend items
ascend-pairs [] each = tt
ascend-pairs (item ∷ items) each = (
  are-after item.number items (λ k within. each 0 (suc k) (omega arith) (omega arith)),
  ascend-pairs items (λ i k less within. each (suc i) (suc k) (omega arith) (omega arith)),
)

-- `worth` is what an amount is worth that a line of a lane adds to counter j
module _ (header : Header) (w : World) (j : ℕ) (worth : Lane → ℤ → ℤ) where
  -- what these lines add is worth, by these answers
  abbrev pub worth_by : List NumberedAnswer → List Item → ℤ
  worth_by answers [] = pos 0
  worth_by answers (item ∷ items) =
      worth item.lane (amount_added j item.act (answer_at item.number answers)) +ℤ worth_by answers items

  -- and by what is read of steps, line by line
  abbrev pub worth_from : List Item → (Lane → LaneSteps) → ℤ
  worth_from [] left = pos 0
  worth_from (item ∷ items) left =
      worth item.lane (amount_added j item.act (read_act header w item.lane item.act (left item.lane)).0)
      +ℤ worth_from items (with_left item.lane (read_act header w item.lane item.act (left item.lane)).1 left)

  -- by the numbers of the lines that is the same
  other-answer : (n : ℕ) (answer : Option Answer) (answers : List NumberedAnswer) (m : ℕ) → n < m
      → answer_at m (with_answer n answer answers) ≡ answer_at m answers
  other-answer n None answers m later = refl
  other-answer n (Some answer) answers m later =
      let apart : nat_eq n m ≡ false = grind (arith, nat_tests) in
      ap (λ (b : Bool). if b then Some answer else answer_at m answers) apart

  others-add : (n : ℕ) (answer : Option Answer) (answers : List NumberedAnswer) (items : List Item)
      → AreAfter n items → worth_by (with_answer n answer answers) items ≡ worth_by answers items
  others-add n answer answers [] later = refl
  others-add n answer answers (item ∷ items) later = omega (
    arith,
    ints,
    ap (λ (o : Option Answer). worth item.lane (amount_added j item.act o))
        (other-answer n answer answers item.number later.0),
    others-add n answer answers items later.1,
  )

  none-before : (n : ℕ) (items : List Item) (left : Lane → LaneSteps) → AreAfter n items
      → answer_at n (read_lines header w items left) ≡ None
  none-before n [] left later = refl
  none-before n (item ∷ items) left later =
      let read = read_act header w item.lane item.act (left item.lane) in
      let next = with_left item.lane read.1 left in
      by read.0 (read_lines header w items next) (none-before n items next later.1)
    where
      by : (answer : Option Answer) (answers : List NumberedAnswer) → answer_at n answers ≡ None
          → answer_at n (with_answer item.number answer answers) ≡ None
      by None answers none = none
      by (Some answer) answers none =
          let apart : nat_eq item.number n ≡ false = grind (arith, nat_tests, later.0) in
          ap (λ (b : Bool). if b then Some answer else answer_at n answers) apart ∙ none

  own-answer : (n : ℕ) (answer : Option Answer) (answers : List NumberedAnswer) → answer_at n answers ≡ None
      → answer_at n (with_answer n answer answers) ≡ answer
  own-answer n None answers none = none
  own-answer n (Some answer) answers none =
      let same : nat_eq n n ≡ true = grind (arith, nat_tests) in
      ap (λ (b : Bool). if b then Some answer else answer_at n answers) same

  by-number : (items : List Item) (left : Lane → LaneSteps) → Ascend items
      → worth_by (read_lines header w items left) items ≡ worth_from items left
  by-number [] left ascend = refl
  by-number (item ∷ items) left ascend =
      let read = read_act header w item.lane item.act (left item.lane) in
      let next = with_left item.lane read.1 left in
      let rest = read_lines header w items next in
      omega (
        arith,
        ints,
        ap (λ (o : Option Answer). worth item.lane (amount_added j item.act o)) (own-answer item.number read.0 rest
            (none-before item.number items next ascend.0)),
        others-add item.number read.0 rest items ascend.0,
        by-number items next ascend.1,
      )

  pub worth-by_number : (items : List Item) (left : Lane → LaneSteps)
      → IsStrictlyIncreasing (map (λ item. item.number) items)
      → worth_by (read_lines header w items left) items ≡ worth_from items left
  worth-by_number items left ascend = by-number items left (ascend-pairs items (λ i k less within.
      AllPairs-from_increasing (map (λ item. item.number) items) ascend i k 0 less within))

  -- what the acts of a lane add is worth by what is read of its steps
  abbrev pub worth_of_lane : Lane → List Act → LaneSteps → ℤ
  worth_of_lane (Cpu c) acts s = added_of_acts header w j c (worth (Cpu c)) acts s
  worth_of_lane Control acts s = pos 0

  -- that of the lane at a place
  abbrev pub worth_at : List Lane → List Item → (Lane → LaneSteps) → ℕ → ℤ
  worth_at lanes items left n =
      worth_of_lane (lane_at lanes n) (acts_of (lane_at lanes n) items) (left (lane_at lanes n))

  no-act : (lane : Lane) (s : LaneSteps) → worth_of_lane lane [] s ≡ pos 0
  no-act (Cpu c) s = refl
  no-act Control s = refl

  -- on the control lane no line adds
  none-of_control : (a : Act) → IsActOf header Control a → (answer : Option Answer) → amount_added j a answer ≡ pos 0
  none-of_control (Cnt i amount) known answer = absurd known.0
  none-of_control (Lim i limit amount) known answer = absurd known.0
  none-of_control _ known answer = refl

  -- where nothing is worth nothing
  module _ (nothing : (lane : Lane) → worth lane (pos 0) ≡ pos 0) where
    one-act-more : (lane : Lane) (a : Act) (acts : List Act) (s : LaneSteps) → IsActOf header lane a
        → worth_of_lane lane (a ∷ acts) s
        ≡ worth lane (amount_added j a (read_act header w lane a s).0)
        +ℤ worth_of_lane lane acts (read_act header w lane a s).1
    one-act-more (Cpu c) a acts s known = refl
    one-act-more Control a acts s known =
        let none = ap (worth Control) (none-of_control a known (read_act header w Control a s).0) in
        omega (arith, ints, none, nothing Control)

    module _ (lanes : List Lane) (once : StandOnce lanes) where
      own-lane : (item : Item) (items : List Item) (left : Lane → LaneSteps) → IsActOf header item.lane item.act
          → worth_of_lane item.lane (acts_of item.lane (item ∷ items)) (left item.lane)
          ≡ worth item.lane (amount_added j item.act (read_act header w item.lane item.act (left item.lane)).0)
          +ℤ worth_of_lane item.lane (acts_of item.lane items)
          (with_left item.lane (read_act header w item.lane item.act (left item.lane)).1 left item.lane)
      own-lane item items left known =
          let read = read_act header w item.lane item.act (left item.lane) in
          let mine = is_lane-self item.lane in
          ap (λ (acts : List Act). worth_of_lane item.lane acts (left item.lane)) (acts_of-cons item.lane item items
          ∙ ap (λ (b : Bool). if b then item.act ∷ acts_of item.lane items else acts_of item.lane items) mine)
          ∙ one-act-more item.lane item.act (acts_of item.lane items) (left item.lane) known
          ∙ ap (λ (b : Bool). worth item.lane (amount_added j item.act read.0)
          +ℤ worth_of_lane item.lane (acts_of item.lane items) (if b then read.1 else left item.lane)) (sym mine)

      apart-lane : (item : Item) (items : List Item) (left : Lane → LaneSteps) (steps : LaneSteps) (lane : Lane)
          → is_lane item.lane lane ≡ false
          → worth_of_lane lane (acts_of lane (item ∷ items)) (left lane)
          ≡ worth_of_lane lane (acts_of lane items) (with_left item.lane steps left lane)
      apart-lane item items left steps lane apart =
          ap (λ (acts : List Act). worth_of_lane lane acts (left lane)) (acts_of-cons lane item items
          ∙ ap (λ (b : Bool). if b then item.act ∷ acts_of lane items else acts_of lane items) apart)
          ∙ ap (λ (b : Bool). worth_of_lane lane (acts_of lane items) (if b then steps else left lane)) (sym apart)

      -- the lines are worth what the lanes are worth, however they stand among one another
      pub worth-interleaved : (items : List Item) (left : Lane → LaneSteps) → AreLinesOf header items
          → All (λ item. is_among item.lane lanes ≡ true) items
          → worth_from items left ≡ sum_below (worth_at lanes items left) (length lanes)
      worth-interleaved [] left known among =
          sym (sum_below-zeros (worth_at lanes [] left) (length lanes) (λ n below. no-act (lane_at lanes n) _))
      worth-interleaved (item ∷ items) left known among =
          let read = read_act header w item.lane item.act (left item.lane) in
          let next = with_left item.lane read.1 left in
          let at = HasPlace-among lanes item.lane (All-head (λ i. is_among i.lane lanes ≡ true) item items among) in
          let act_known = (All-head (λ i. IsLineOf header (line_of i)) item items known).1 in
          let here : worth_at lanes (item ∷ items) left at.place
          ≡ worth item.lane (amount_added j item.act read.0) +ℤ worth_at lanes items next at.place =
          subst (λ (l : Lane). worth_of_lane l (acts_of l (item ∷ items)) (left l)
          ≡ worth item.lane (amount_added j item.act read.0) +ℤ worth_of_lane l (acts_of l items) (next l))
          (sym at.there) (own-lane item items left act_known) in
          let changed = sum_below-changed (worth_at lanes items next) (worth_at lanes (item ∷ items) left) at.place
          (length lanes) at.below
          (λ i i_in other. apart-lane item items left read.1 (lane_at lanes i)
          (other-lane lanes once item.lane at.place i at.number other
          (sym (pass_of-lane_at lanes i once i_in).number))) in
          let rest = worth-interleaved items next (All-tail (λ i. IsLineOf header (line_of i)) item items known)
          (All-tail (λ i. is_among i.lane lanes ≡ true) item items among) in
          omega (arith, ints, here, changed, rest)

    -- so by the answers of a phase they are worth what the lanes are worth
    pub worth-lines : (items : List Item) → AreLinesOf header items
        → IsStrictlyIncreasing (map (λ item. item.number) items) → (hs : TableHistories)
        → worth_by (answers_of header w items hs) items
        ≡ sum_below (worth_at (lanes_of header.layout items) items (steps_of (lanes_of header.layout items) hs))
        (length (lanes_of header.layout items))
    worth-lines items known ascend hs =
        let lanes = lanes_of header.layout items in
        worth-by_number items (steps_of lanes hs) ascend
        ∙ worth-interleaved lanes (StandOnce-lanes header.layout items) items (steps_of lanes hs) known
        (among-known header items known)

-- and what the pass of a CPU's lane has added is what is read of its steps
module _ (header : Header) (w : World) (j : ℕ) (part : ℤ → ℤ) (nothing : part (pos 0) ≡ pos 0)
    (adds-parts : AddsParts part) where
  pub added-by_pass : (lanes : List Lane) (n : ℕ) (c : CpuId) (items : List Item) (hs : TableHistories)
      → MakesActs (pcpu_makes (pcpu_facts header w) (Cpu c) (suc n)) (suc n) (acts_of (Cpu c) items) hs.counters
      → pass_of lanes (Cpu c) ≡ suc n
      → own_added part j (own hs.counters (suc n))
      ≡ added_of_acts header w j c part (acts_of (Cpu c) items) (steps_of lanes hs (Cpu c))
  added-by_pass lanes n c items hs made number =
      (TellsLane-made header w j c part nothing adds-parts (suc n) (acts_of (Cpu c) items) hs.counters made).adds
      (steps_of lanes hs (Cpu c)) [] (ap (steps_by hs.counters) number
      ∙ sym (append-nil (map (λ e. e.step) (reverse (own hs.counters (suc n))))))
