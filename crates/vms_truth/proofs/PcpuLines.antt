-- What the lines of a phase told of the percpu counters.
use Rattle.std.proofs.Common.{◌≡◌, ℕ, suc, ◌+◌, ◌≤◌, List, [], ◌∷◌, ◌++◌, length, Option, Some, None, refl, sym, ap}
use Rattle.std.proofs.Common.{subst, ◌∙◌, append-nil, arith, inl, inr}
use Rattle.std.specs.Prelude.{All, map}
use Rattle.std.specs.List.Sorted.{IsStrictlyIncreasing}
use Rattle.std.proofs.lemmas.Bool.{cases_lt}
use Rattle.std.proofs.lemmas.List.Elements.{All-weaker}
use Rattle.vms_answers.specs.declared.answers.Answer.{Answer}
use Rattle.vms_answers.specs.Common.{LaneSteps, answers_of, pcpu_told, read_act, read_pcpu_act, steps_by, steps_of}
use Rattle.vms_answers.specs.Common.{told}
use Rattle.vms_answers.proofs.Common.{read-by_call}
use Rattle.vms_file_order.specs.Common.{MakeInAnyOrder, pass_of, pcpu_makes}
use Rattle.vms_file_order.proofs.Common.{HasPlace-among, lines-among_lanes}
use Rattle.vms_history.proofs.Common.{Extends-same, own-not_given, owner_in-append, prefix_is_legal}
use Rattle.vms_pcpu_core.specs.Histories.{History, IsLegal}
use Rattle.vms_pcpu_core.specs.MadeBetween.{MadeSteps}
use Rattle.vms_pcpu_core.specs.Steps.{role}
use Rattle.vms_pcpu_core.proofs.Common.{adds-call, idle-after, tells-call}
use Rattle.vms_truth.specs.Common.{Moments}
use Rattle.vms_percpu_near.specs.Adds.{AddsCarryNothing}
use Rattle.vms_percpu_near.proofs.CarriedParts.{adds-earlier}
use Rattle.vms_truth.proofs.AddsInPhases.{phases-add_free}
use Rattle.vms_truth.specs.PcpuTruth.{PcpuAnswerIsTrue, PcpuCallsAnswerTruly}
use Rattle.vms_truth.specs.PhaseTruth.{PcpuLineIsTrue}
use Rattle.vms_truth.proofs.ReadLanes.{ActTold, AreTrue, acts-told}
use Rattle.vms_truth.proofs.ReadLines.{LineShown, LinesShown, lines-shown}
use Rattle.vms_world.specs.Common.{Act, Cpu, CpuId, Extends, Header, IsIdle, IsLaneOf, IsLineOf, IsPcpuCall, Item, Lane}
use Rattle.vms_world.specs.Common.{MakesActs, MakesPcpuCall, PcpuAnswer, PcpuCall, PcpuFacts, PcpuStep, PcpuSteps}
use Rattle.vms_world.specs.Common.{TableHistories, ZoneSize, acts_of, after, begun_in, lanes_of, line_of, own, owner_in}
use Rattle.vms_world.specs.Common.{owner_of, pcpu_added, pcpu_call, pcpu_facts, percpu}
use Rattle.vms_world.specs.declared.worlds.World.{World}

length-after : (p : ℕ) (ks : List PcpuStep) (g : History) → length (after p ks g) ≡ length ks + length g
length-after p [] g = omega arith
length-after p (k ∷ ks) g = omega (arith, length-after p ks (record { caller = p; step = k } ∷ g))

module _ (header : Header) (w : World) (whole : History) where
  abbrev pub facts : PcpuFacts
  facts = pcpu_facts header w

  -- what the call of an act told is true, and was read so
  pub record CallIsTrue (p : ℕ) (lane : Lane) (done : List Act) (call : PcpuCall) (when : Moments PcpuStep)
      (read : Option Answer) : Type 0 where
    pub steps : List PcpuStep
    pub told : PcpuAnswer
    pub within : Extends whole when.later
    pub before : MakesActs (pcpu_makes facts lane p) p done when.earlier
    pub made : MadeSteps facts when.earlier when.later p steps
    pub called : IsPcpuCall facts (owner_of lane) call steps told
    pub truly : PcpuAnswerIsTrue facts when.later when.earlier p call told
    pub is : (answer : Answer) → pcpu_told told ≡ Some answer → read ≡ Some answer

  abbrev pub ActIsTrue : ℕ → Lane → List Act → Act → Moments PcpuStep → Option Answer → Type 0
  ActIsTrue p lane done a when read = (c : CpuId) → lane ≡ Cpu c → (call : PcpuCall) → pcpu_call lane a ≡ Some call
      → CallIsTrue p lane done call when read

  abbrev pub read_of : Lane → Act → List PcpuStep → Option Answer × List PcpuStep
  read_of lane a ks = read_pcpu_act facts (pcpu_call lane a) ks

  module _ (lane : Lane) (p : ℕ) (legal : IsLegal facts whole) (owns : owner_in role whole p ≡ owner_of lane)
      (adds : AddsCarryNothing whole) (calls-true : PcpuCallsAnswerTruly) where
    -- a caller that made a step owned its CPU by then
    owned : (later earlier : History) (steps : List PcpuStep) → Extends whole later
        → own later p ≡ after p steps (own earlier p) → 1 ≤ length steps → owner_in role later p ≡ owner_of lane
    owned later earlier steps within made some = elim (cases_lt (begun_in role later) p) [
      | inl before ↦
          let none = own-not_given percpu facts later p later_legal before in
          let many = length-after p steps (own earlier p) in
          let same : length (own later p) ≡ length (after p steps (own earlier p)) = ap length made in
          let empty : length (own later p) ≡ 0 = ap length none in
          absurd (omega (arith, many, same, empty, some))
      | inr given ↦
          sym (owner_in-append percpu facts within.0 later p (subst (IsLegal facts) within.1 legal) given)
          ∙ ap (λ (h : History). owner_in role h p) (sym within.1) ∙ owns
    ]
      where
        later_legal : IsLegal facts later
        later_legal = prefix_is_legal percpu facts within.0 later (subst (IsLegal facts) within.1 legal)

    -- the steps of one act are read off whole
    act-told : (done : List Act) (a : Act) (later earlier : History) (steps : List PcpuStep) → Extends whole later
        → Extends later earlier → MakesActs (pcpu_makes facts lane p) p done earlier → PcpuSteps facts lane a steps
        → own later p ≡ after p steps (own earlier p) → IsIdle (own earlier p)
        → ActTold (read_of lane) (ActIsTrue p lane) done a (record { earlier = earlier; later = later }) steps
    act-told done a later earlier steps within since before makes made idle = by (pcpu_call lane a) refl makes
      where
        has : MadeSteps facts earlier later p steps
        has = record {
          legal = prefix_is_legal percpu facts within.0 later (subst (IsLegal facts) within.1 legal);
          goes_on = since;
          made = made;
        }

        by : (asked : Option PcpuCall) → pcpu_call lane a ≡ asked → MakesPcpuCall facts (owner_of lane) asked steps
            → ActTold (read_of lane) (ActIsTrue p lane) done a (record { earlier = earlier; later = later }) steps
        by None is none = record {
          answer = None;
          reads = λ rest.
              ap (λ (asked : Option PcpuCall). read_pcpu_act facts asked (steps ++ rest)) is
              ∙ ap (λ (ks : List PcpuStep). let read : Option Answer × List PcpuStep = (None, ks ++ rest) in read) none;
          truly = λ c lane_is call some. absurd (let both : Some call ≡ None = sym some ∙ is in cc);
        }
        by (Some call) is (told_answer, called) = record {
          answer = pcpu_told told_answer;
          reads = λ rest.
              ap (λ (asked : Option PcpuCall). read_pcpu_act facts asked (steps ++ rest)) is
              ∙ ap (told pcpu_told) (tells-call facts (owner_of lane) call steps rest told_answer called);
          truly = λ c lane_is other same.
              let one : call ≡ other = (let both : Some call ≡ Some other = sym is ∙ same in cc) in
              subst (λ (asked : PcpuCall). CallIsTrue p lane done asked (record { earlier = earlier; later = later })
              (pcpu_told told_answer)) one (record {
                steps = steps;
                told = told_answer;
                within = within;
                before = before;
                made = has;
                called = called;
                truly = calls-true facts (owner_of lane) call p later earlier steps told_answer called has
                    (adds-earlier whole later within adds) idle
                    (λ d is_own some. owned later earlier steps within made some ∙ is_own);
                is = λ answer told_so. told_so;
              });
        }

    -- every act leaves its caller idle
    stays-idle : (a : Act) (steps : List PcpuStep) → PcpuSteps facts lane a steps → (mine : History) → IsIdle mine
        → IsIdle (after p steps mine)
    stays-idle a steps makes mine idle = by (pcpu_call lane a) makes
      where
        by : (asked : Option PcpuCall) → MakesPcpuCall facts (owner_of lane) asked steps → IsIdle (after p steps mine)
        by None none = subst (λ (ks : List PcpuStep). IsIdle (after p ks mine)) (sym none) idle
        by (Some call) (told_answer, called) =
            idle-after (pcpu_added call told_answer) p steps
            (adds-call facts (owner_of lane) call steps told_answer called) mine idle

    pub lane-true : (acts : List Act)
        → MakesActs (pcpu_makes facts lane p) p acts whole
        → AreTrue (read_of lane) (ActIsTrue p lane) whole [] [] acts (steps_by whole p)
    lane-true acts made =
        (acts-told (read_of lane) (ActIsTrue p lane) (pcpu_makes facts lane p) p whole
        IsIdle (record { no_lock = λ i. refl; nothing_carried = λ i. refl })
        (λ a h steps makes mine idle. stays-idle a steps makes mine idle)
        (λ done a later earlier steps within since before makes mine idle.
        act-told done a later earlier steps within since before makes mine idle)
        acts whole (Extends-same whole) made).truly (steps_by whole p) [] (sym (append-nil (steps_by whole p)))

module _ (header : Header) (w : World) (items : List Item) (hs : TableHistories) where
  abbrev lanes : List Lane
  lanes = lanes_of header.layout items

  abbrev pub Shown : Lane → List Act → Act → Moments PcpuStep → Option Answer → Type 0
  Shown lane done a when read = ActIsTrue header w hs.counters (pass_of lanes lane) lane done a when read

  -- a line of a CPU's lane that makes such a call answers what is read of it
  counters-shown : (lane : Lane) (done : List Act) (a : Act) (s : LaneSteps) (when : Moments PcpuStep)
      → Shown lane done a when (read_of header w hs.counters lane a s.counters).0
      → Shown lane done a when (read_act header w lane a s).0
  counters-shown lane done a s when shown c lane_is call is =
      let facts : PcpuFacts = pcpu_facts header w in
      let line = shown c lane_is call is in
      let same : (read_act header w lane a s).0 ≡ (read_pcpu_act facts (pcpu_call lane a) s.counters).0 =
      ap (λ (l : Lane). (read_act header w l a s).0) lane_is
      ∙ ap (λ x. x.0) (read-by_call header w c call a
      (subst (λ (l : Lane). pcpu_call l a ≡ Some call) lane_is is) s)
      ∙ ap (λ (asked : Option PcpuCall). (read_pcpu_act facts asked s.counters).0) (sym is) in
      record {
        steps = line.steps;
        told = line.told;
        within = line.within;
        before = line.before;
        made = line.made;
        called = line.called;
        truly = line.truly;
        is = λ answer told_so. same ∙ line.is answer told_so;
      }

  pub line-true : (moments : ℕ → Moments PcpuStep) (item : Item)
      → LineShown Shown items (answers_of header w items hs) moments item → (c : CpuId) → item.lane ≡ Cpu c
      → (call : PcpuCall) → pcpu_call item.lane item.act ≡ Some call
      → PcpuLineIsTrue header w items hs item call (pass_of lanes item.lane) (moments item.number)
  line-true moments item line c lane_is call is =
      let truly = line.shown c lane_is call is in
      record {
        steps = truly.steps;
        told = truly.told;
        within = truly.within;
        before = truly.before;
        made = truly.made;
        called = truly.called;
        truly = truly.truly;
        printed = λ answer same. line.printed answer (truly.is answer same);
      }

-- the lines of a phase are shown at moments that follow one another, and so each that makes such a call is true
pub pcpu_lines-shown : PcpuCallsAnswerTruly → (header : Header) (pressure normal : ZoneSize → ℕ → ℕ → Type 0)
    (w : World) (items : List Item) (hs : TableHistories) → MakeInAnyOrder header pressure normal w items hs
    → All (λ item. IsLineOf header (line_of item)) items
    → IsStrictlyIncreasing (map (λ item. item.number) items)
    → LinesShown (Shown header w items hs) items (answers_of header w items hs) (λ lane. []) items
pcpu_lines-shown calls-true header pressure normal w items hs makes known up =
    let lanes = lanes_of header.layout items in
    lines-shown header w lanes items hs.counters (λ s. s.counters) (read_of header w hs.counters)
    (Shown header w items hs) (Shown header w items hs) (λ lane a s. refl) (counters-shown header w items hs)
    [] items (steps_of lanes hs) (λ lane. []) refl tt
    (lines-among_lanes header items
    (All-weaker (λ item. IsLineOf header (line_of item)) (λ item. IsLaneOf header item.lane) (λ item is. is.0) items
    known)) up
    (λ lane among.
    let at = HasPlace-among lanes lane among in
    let facts : PcpuFacts = pcpu_facts header w in
    let made : MakesActs (pcpu_makes facts lane (suc at.place)) (suc at.place) (acts_of lane items) hs.counters =
    subst (λ (l : Lane). MakesActs (pcpu_makes facts l (suc at.place)) (suc at.place)
    (acts_of l items) hs.counters) at.there (makes.pcpu_lines at.place at.below) in
    subst (λ (p : ℕ). AreTrue (read_of header w hs.counters lane) (ActIsTrue header w hs.counters p lane)
    hs.counters [] [] (acts_of lane items) (steps_by hs.counters p)) (sym at.number)
    (lane-true header w hs.counters lane (suc at.place) makes.complete.counters.legal
    (makes.pcpu_lanes.owners at.place at.below ∙ ap owner_of at.there)
    (phases-add_free header pressure normal w items hs makes) calls-true (acts_of lane items) made))

pub pcpu_lines-true : (header : Header) (w : World) (items : List Item) (hs : TableHistories)
    (moments : ℕ → Moments PcpuStep)
    → All (LineShown (Shown header w items hs) items (answers_of header w items hs) moments) items
    → All (λ item. (c : CpuId) → item.lane ≡ Cpu c → (call : PcpuCall) → pcpu_call item.lane item.act ≡ Some call
    → PcpuLineIsTrue header w items hs item call (pass_of (lanes_of header.layout items) item.lane)
    (moments item.number)) items
pcpu_lines-true header w items hs moments shown =
    All-weaker (LineShown (Shown header w items hs) items (answers_of header w items hs) moments)
    (λ item. (c : CpuId) → item.lane ≡ Cpu c → (call : PcpuCall) → pcpu_call item.lane item.act ≡ Some call
    → PcpuLineIsTrue header w items hs item call (pass_of (lanes_of header.layout items) item.lane)
    (moments item.number))
    (line-true header w items hs moments) items shown
