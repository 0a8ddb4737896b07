-- Once the main passes have ended all lanes of a phase, what they have seen was made by these lanes.
use Rattle.std.proofs.Common.{◌≡◌, ℕ, zero, suc, ◌+◌, ◌<◌, List, [], ◌∷◌, ◌++◌, length, map, sym, ap, subst, ◌∙◌, arith}
use Rattle.std.proofs.Common.{append-nil, refl, Bool, true, false, ◌||◌, if◌then◌else◌}
use Rattle.std.proofs.Math.Seq.{take-length}
use Rattle.std.proofs.lemmas.List.Elements.{All-cons, All-head, All-nil, All-tail}
use Rattle.vms_world.specs.Common.{Header, ZoneSize, pages, events, after, own, Machine, percpu, is_lane, lane_items}
use Rattle.vms_world.specs.Common.{Item, Lane, is_among, lane_at, lanes_of, AreComplete}
use Rattle.vms_seats.specs.Common.{Pass}
use Rattle.vms_tables.specs.declared.tables.Tables.{Tables}
use Rattle.vms_tables.specs.Common.{TablePasses}
use Rattle.vms_world.specs.declared.worlds.World.{World}
use Rattle.vms_answers.specs.Common.{NumberedAnswer, answer_of_kept}
use Rattle.vms_file_order.specs.Common.{PassSteps, StandOnce, closing_of, ends_from, opening_of, event_passes}
use Rattle.vms_file_order.specs.Common.{page_passes, pcpu_passes}
use Rattle.vms_file_order.proofs.Common.{is_lane-self, is_lane-sym}
use Rattle.vms_lane.specs.Common.{passes_in, MakeLines}
use Rattle.vms_phase.specs.declared.lane_joins.JoinedLane.{JoinedLane}
use Rattle.vms_phase.specs.Common.{HasEndedLanes, AreJoinedLanes, AreTold, HaveJoinedLanes, HaveRunLanes, IsJoinedLane}
use Rattle.vms_phase.specs.Common.{seen_by, told_of, HaveEnded, AreMadeByLanes, HasMadeLane}

own-ended : {F K S : Type 0} (machine : Machine F K S) (passes : PassSteps K machine.role) (lanes : List Lane)
    (main : Pass F K) → HasEndedLanes machine passes lanes (length lanes) main
    → own main.seen 0 ≡ closing_of passes lanes (opening_of passes lanes)
own-ended machine passes lanes main has =
    has.own_events
    ∙ ap (λ ls. after 0 (ends_from passes 1 ls) (opening_of passes lanes)) (take-length lanes)

module _ (header : Header) (pressure normal : ZoneSize → ℕ → ℕ → Type 0) (tables : Tables) (w : World)
    (items : List Item) (mains : TablePasses) where
  -- all lanes have ended, and none is left
  pub record HaveAllJoined (lanes : List Lane) (joined : List JoinedLane) : Type 0 where
    pub ended : HaveEnded lanes (length lanes) mains
    pub each : AreJoinedLanes header pressure normal w items mains 1 lanes joined

  pub all-joined : (lanes : List Lane) (joined : List JoinedLane)
      → HaveJoinedLanes header pressure normal tables w items lanes mains joined [] → HaveAllJoined lanes joined
  all-joined lanes joined have = by have.left have.parts have.results
    where
      by : (left : List Lane) → lanes ≡ have.over ++ left
          → HaveRunLanes header pressure normal tables w items (suc (length have.over)) left []
          → HaveAllJoined lanes joined
      by (lane ∷ left) parts run = absurd run
      by [] parts run =
          let all : have.over ≡ lanes = sym (parts ∙ append-nil have.over) in
          record {
            ended = subst (λ (m : ℕ). HaveEnded lanes m mains) (ap length all) have.ended;
            each = subst (λ (ls : List Lane). AreJoinedLanes header pressure normal w items mains 1 ls joined) all
                have.each;
          }

  -- the lanes that were joined are these
  pub lanes-joined : (number : ℕ) (lanes : List Lane) (joined : List JoinedLane)
      → AreJoinedLanes header pressure normal w items mains number lanes joined
      → map (λ (one : JoinedLane). one.lane) joined ≡ lanes
  lanes-joined number [] [] are = refl
  lanes-joined number [] (one ∷ joined) are = absurd are
  lanes-joined number (lane ∷ lanes) [] are = absurd are
  lanes-joined number (lane ∷ lanes) (one ∷ joined) are =
      ap (λ (l : Lane). l ∷ map (λ (j : JoinedLane). j.lane) joined) are.0.is
      ∙ ap (λ (ls : List Lane). lane ∷ ls) (lanes-joined (suc number) lanes joined are.1)

  -- what a lane apart from these was told doesn't matter to them
  told-apart : (number : ℕ) (lane : Lane) (first : List NumberedAnswer) (told : Lane → List NumberedAnswer)
      (lanes : List Lane) (joined : List JoinedLane)
      → AreJoinedLanes header pressure normal w items mains number lanes joined → is_among lane lanes ≡ false
      → AreTold told joined → AreTold (λ (l : Lane). if is_lane lane l then first else told l) joined
  told-apart number lane first told [] [] are apart tells =
      All-nil (λ (one : JoinedLane). (if is_lane lane one.lane then first else told one.lane)
      ≡ map answer_of_kept one.answers.items)
  told-apart number lane first told [] (one ∷ joined) are apart tells = absurd are
  told-apart number lane first told (l ∷ lanes) [] are apart tells = absurd are
  told-apart number lane first told (l ∷ lanes) (one ∷ joined) are apart tells =
      by (is_lane l lane) refl apart
      (λ later. told-apart (suc number) lane first told lanes joined are.1 later
      (All-tail (λ (j : JoinedLane). told j.lane ≡ map answer_of_kept j.answers.items) one joined tells))
    where
      by : (b : Bool) → is_lane l lane ≡ b → (b || is_among lane lanes) ≡ false
          → (is_among lane lanes ≡ false → AreTold (λ (m : Lane). if is_lane lane m then first else told m) joined)
          → AreTold (λ (m : Lane). if is_lane lane m then first else told m) (one ∷ joined)
      by true same either rest = absurd cc
      by false same either rest =
          let here : is_lane lane one.lane ≡ false = ap (is_lane lane) are.0.is ∙ is_lane-sym lane l ∙ same in
          All-cons (λ (j : JoinedLane). (if is_lane lane j.lane then first else told j.lane)
          ≡ map answer_of_kept j.answers.items) one joined
          (ap (λ (b : Bool). if b then first else told one.lane) here
          ∙ All-head (λ (j : JoinedLane). told j.lane ≡ map answer_of_kept j.answers.items) one joined tells)
          (rest either)

  -- so each lane was told what its own lines answered
  pub AreTold-own : (number : ℕ) (lanes : List Lane) (joined : List JoinedLane)
      → AreJoinedLanes header pressure normal w items mains number lanes joined → StandOnce lanes
      → AreTold (told_of joined) joined
  AreTold-own number [] [] are once =
      All-nil (λ (j : JoinedLane). told_of [] j.lane ≡ map answer_of_kept j.answers.items)
  AreTold-own number [] (one ∷ joined) are once = absurd are
  AreTold-own number (l ∷ lanes) [] are once = absurd are
  AreTold-own number (l ∷ lanes) (one ∷ joined) are once =
      let first : List NumberedAnswer = map answer_of_kept one.answers.items in
      let apart : is_among one.lane lanes ≡ false =
      subst (λ (x : Lane). is_among x lanes ≡ false) (sym are.0.is) once.0 in
      All-cons (λ (j : JoinedLane). told_of (one ∷ joined) j.lane ≡ map answer_of_kept j.answers.items) one joined
      (ap (λ (b : Bool). if b then first else told_of joined one.lane) (is_lane-self one.lane))
      (told-apart (suc number) one.lane first (told_of joined) lanes joined are.1 apart
      (AreTold-own (suc number) lanes joined are.1 once.1))

  module _ (told : Lane → List NumberedAnswer) where
    abbrev Tells : JoinedLane → Type 0
    Tells one = told one.lane ≡ map answer_of_kept one.answers.items

    made-lane : (number : ℕ) (lane : Lane) (one : JoinedLane)
        → IsJoinedLane header pressure normal w items mains number lane one → Tells one
        → HasMadeLane header pressure normal w items (seen_by mains) number lane (told lane)
    made-lane number lane one is tells = record {
      first = passes_in is.first;
      last = passes_in is.last;
      lines = subst (λ (answers : List NumberedAnswer). MakeLines header pressure normal w lane (lane_items lane items)
          (passes_in is.last) (passes_in is.first) answers) (sym tells ∙ ap told is.is) is.lines;
      pages = is.whole.pages;
      events = is.whole.events;
      counters = is.whole.counters;
    }

    made-lanes : (number : ℕ) (lanes : List Lane) (joined : List JoinedLane)
        → AreJoinedLanes header pressure normal w items mains number lanes joined → AreTold told joined → (n : ℕ)
        → n < length lanes → HasMadeLane header pressure normal w items (seen_by mains) (number + n) (lane_at lanes n)
        (told (lane_at lanes n))
    made-lanes number [] joined are tells n below = absurd (omega (arith, below))
    made-lanes number (lane ∷ lanes) [] are tells n below = absurd are
    made-lanes number (lane ∷ lanes) (one ∷ joined) are tells zero below =
        let at : number ≡ number + 0 = omega arith in
        subst (λ (m : ℕ). HasMadeLane header pressure normal w items (seen_by mains) m lane (told lane)) at
        (made-lane number lane one are.0 (All-head Tells one joined tells))
    made-lanes number (lane ∷ lanes) (one ∷ joined) are tells (suc n) below =
        let at : suc number + n ≡ number + suc n = omega arith in
        subst (λ (m : ℕ). HasMadeLane header pressure normal w items (seen_by mains) m (lane_at lanes n)
        (told (lane_at lanes n))) at
        (made-lanes (suc number) lanes joined are.1 (All-tail Tells one joined tells) n (omega (arith, below)))

    pub AreMadeByLanes-joined : (joined : List JoinedLane)
        → HaveJoinedLanes header pressure normal tables w items (lanes_of header.layout items) mains joined []
        → AreTold told joined → AreComplete header w (seen_by mains)
        → AreMadeByLanes header pressure normal w items (seen_by mains) told
    AreMadeByLanes-joined joined have tells complete =
        let lanes = lanes_of header.layout items in
        let all = all-joined lanes joined have in
        record {
          complete = complete;
          pages = own-ended pages page_passes lanes mains.pages all.ended.pages;
          events = own-ended events event_passes lanes mains.events all.ended.events;
          counters = own-ended percpu pcpu_passes lanes mains.counters all.ended.counters;
          lanes = λ n below.
              let at : 1 + n ≡ suc n = omega arith in
              subst (λ (m : ℕ). HasMadeLane header pressure normal w items (seen_by mains) m (lane_at lanes n)
              (told (lane_at lanes n))) at (made-lanes 1 lanes joined all.each tells n below);
        }
