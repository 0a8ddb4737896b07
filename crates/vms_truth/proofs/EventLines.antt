-- What the lines of a phase told of the event counters.
use Rattle.std.proofs.Common.{◌≡◌, ℕ, suc, List, [], ◌++◌, Option, Some, None, refl, sym, ap, subst, ◌∙◌, append-nil}
use Rattle.std.specs.Prelude.{All, map}
use Rattle.std.specs.List.Sorted.{IsStrictlyIncreasing}
use Rattle.std.proofs.lemmas.List.Elements.{All-weaker}
use Rattle.vms_answers.specs.declared.answers.Answer.{Answer}
use Rattle.vms_answers.specs.Common.{LaneSteps, answers_of, event_told, first_answer, read_act, read_event_act}
use Rattle.vms_answers.specs.Common.{read_page_act, read_pcpu_act, steps_by, steps_of, told}
use Rattle.vms_answers.proofs.Common.{TellsEventCall}
use Rattle.vms_calls.specs.declared.page_calls.PageCall.{PageCall}
use Rattle.vms_event_core.specs.declared.call_values.EventAnswer.TheVariants.{Done}
use Rattle.vms_world.specs.Common.{Total, Count, Act, CallSteps, EventAnswer, EventCall, EventFacts, EventStep}
use Rattle.vms_world.specs.Common.{EventSteps, Extends, Header, IsEventCall, IsLaneOf, IsLineOf, Item, Lane, MakesActs}
use Rattle.vms_world.specs.Common.{TableHistories, ZoneSize, acts_of, after, event_call, event_facts, events, lanes_of}
use Rattle.vms_world.specs.Common.{line_of, own, owner_of, page_call, pcpu_call, pcpu_facts}
use Rattle.vms_event_core.specs.declared.call_values.EventCall.TheVariants.{FoldDead, Sum}
use Rattle.vms_event_core.specs.Events.{History, IsLegal}
use Rattle.vms_file_order.specs.Common.{MakeInAnyOrder, pass_of}
use Rattle.vms_file_order.proofs.Common.{HasPlace-among, lines-among_lanes}
use Rattle.vms_history.proofs.Common.{Extends-same, prefix_is_legal}
use Rattle.vms_truth.specs.Common.{Moments}
use Rattle.vms_truth.specs.EventTruth.{EventAnswerIsTrue, EventCallsAnswerTruly}
use Rattle.vms_truth.specs.PhaseTruth.{EventLineIsTrue}
use Rattle.vms_truth.proofs.ReadLanes.{ActTold, AreTrue, acts-told}
use Rattle.vms_truth.proofs.ReadLines.{LineShown, LinesShown, lines-shown}
use Rattle.vms_world.specs.declared.worlds.World.{World}
use Rattle.vms_world.proofs.Common.{alone-no_burial}
use Rattle.vms_world.proofs.EventActs.{events-no_page_call}

module _ (header : Header) (w : World) (whole : History) where
  abbrev pub facts : EventFacts
  facts = event_facts header w

  abbrev pub Makes : Lane → Act → History → List EventStep → Type 0
  Makes lane a h steps = EventSteps facts lane a steps

  -- what the call of an act told is true, and was read so
  pub record CallIsTrue (p : ℕ) (lane : Lane) (done : List Act) (call : EventCall) (when : Moments EventStep)
      (read : Option Answer) : Type 0 where
    pub steps : List EventStep
    pub told : EventAnswer
    pub within : Extends whole when.later
    pub since : Extends when.later when.earlier
    pub before : MakesActs (Makes lane) p done when.earlier
    pub made : own when.later p ≡ after p steps (own when.earlier p)
    pub called : IsEventCall facts call steps told
    pub truly : EventAnswerIsTrue facts when.later when.earlier p call told
    pub is : (answer : Answer) → event_told told ≡ Some answer → read ≡ Some answer

  abbrev pub ActIsTrue : ℕ → Lane → List Act → Act → Moments EventStep → Option Answer → Type 0
  ActIsTrue p lane done a when read = (call : EventCall) → event_call lane a ≡ Some call
      → CallIsTrue p lane done call when read

  abbrev pub read_of : Lane → Act → List EventStep → Option Answer × List EventStep
  read_of lane a ks = read_event_act facts (event_call lane a) ks

  module _ (lane : Lane) (p : ℕ) (legal : IsLegal facts whole) (tells : TellsEventCall)
      (calls-true : EventCallsAnswerTruly) where
    -- the steps of one act are read off whole
    act-told : (done : List Act) (a : Act) (later earlier : History) (steps : List EventStep) → Extends whole later
        → Extends later earlier → MakesActs (Makes lane) p done earlier → EventSteps facts lane a steps
        → own later p ≡ after p steps (own earlier p)
        → ActTold (read_of lane) (ActIsTrue p lane) done a (record { earlier = earlier; later = later }) steps
    act-told done a later earlier steps within since before makes made = by (event_call lane a) refl makes
      where
        by : (asked : Option EventCall) → event_call lane a ≡ asked → CallSteps (IsEventCall facts) asked steps
            → ActTold (read_of lane) (ActIsTrue p lane) done a (record { earlier = earlier; later = later }) steps
        by None is none = record {
          answer = None;
          reads = λ rest.
              ap (λ (asked : Option EventCall). read_event_act facts asked (steps ++ rest)) is
              ∙ ap (λ (ks : List EventStep).
              let read : Option Answer × List EventStep = (None, ks ++ rest) in read) none;
          truly = λ call some. absurd (let both : Some call ≡ None = sym some ∙ is in cc);
        }
        by (Some call) is (told_answer, called) = record {
          answer = event_told told_answer;
          reads = λ rest.
              ap (λ (asked : Option EventCall). read_event_act facts asked (steps ++ rest)) is
              ∙ ap (told event_told) (tells facts call steps rest told_answer called);
          truly = λ other same.
              let one : call ≡ other = (let both : Some call ≡ Some other = sym is ∙ same in cc) in
              subst (λ (asked : EventCall). CallIsTrue p lane done asked (record { earlier = earlier; later = later })
              (event_told told_answer)) one (record {
                steps = steps;
                told = told_answer;
                within = within;
                since = since;
                before = before;
                made = made;
                called = called;
                truly = calls-true facts call p later earlier steps told_answer called
                    (prefix_is_legal events facts within.0 later (subst (IsLegal facts) within.1 legal)) since made;
                is = λ answer told_so. told_so;
              });
        }

    pub lane-true : (acts : List Act) → MakesActs (Makes lane) p acts whole
        → AreTrue (read_of lane) (ActIsTrue p lane) whole [] [] acts (steps_by whole p)
    lane-true acts made =
        (acts-told (read_of lane) (ActIsTrue p lane) (Makes lane) p whole
        (λ mine. Unit {0}) tt (λ a h steps makes mine holds. tt)
        (λ done a later earlier steps within since before makes mine holds.
        act-told done a later earlier steps within since before makes mine)
        acts whole (Extends-same whole) made).truly (steps_by whole p) [] (sym (append-nil (steps_by whole p)))

module _ (header : Header) (w : World) (items : List Item) (hs : TableHistories) where
  abbrev lanes : List Lane
  lanes = lanes_of header.layout items

  abbrev pub Shown : Lane → List Act → Act → Moments EventStep → Option Answer → Type 0
  Shown lane done a when read = ActIsTrue header w hs.events (pass_of lanes lane) lane done a when read

  -- an act whose call on the event counters answers something makes none on the page counters
  alone : (lane : Lane) (a : Act) (asked : EventCall) (told_answer : EventAnswer) (steps : List EventStep)
      → event_call lane a ≡ Some asked → IsEventCall (event_facts header w) asked steps told_answer → (answer : Answer)
      → event_told told_answer ≡ Some answer → page_call lane a ≡ None
  alone lane a (Sum k) (Total sum) steps is called answer told_so =
      events-no_page_call lane a (Sum k) is (alone-no_burial lane a (Sum k) is (λ d same. cc))
  alone lane a (Count k n) Done steps is called answer told_so = absurd cc
  alone lane a (FoldDead d) Done steps is called answer told_so = absurd cc
  alone lane a _ _ steps is called answer told_so = absurd called

  -- so what is read of the event counters is answered
  events-shown : (lane : Lane) (done : List Act) (a : Act) (s : LaneSteps) (when : Moments EventStep)
      → Shown lane done a when (read_of header w hs.events lane a s.events).0
      → Shown lane done a when (read_act header w lane a s).0
  events-shown lane done a s when shown asked is =
      let line = shown asked is in
      let others = (read_pcpu_act (pcpu_facts header w) (pcpu_call lane a) s.counters).0 in
      let read = (read_of header w hs.events lane a s.events).0 in
      record {
        steps = line.steps;
        told = line.told;
        within = line.within;
        since = line.since;
        before = line.before;
        made = line.made;
        called = line.called;
        truly = line.truly;
        is = λ answer told_so.
            ap (λ (makes : Option PageCall).
            first_answer (read_page_act header (owner_of lane) makes s.pages).0 (first_answer read others))
            (alone lane a asked line.told line.steps is line.called answer told_so)
            ∙ ap (λ (x : Option Answer). first_answer x others) (line.is answer told_so);
      }

  pub line-true : (moments : ℕ → Moments EventStep) (item : Item)
      → LineShown Shown items (answers_of header w items hs) moments item → (call : EventCall)
      → event_call item.lane item.act ≡ Some call
      → EventLineIsTrue header w items hs item call (pass_of lanes item.lane) (moments item.number)
  line-true moments item line call is =
      let truly = line.shown call is in
      record {
        steps = truly.steps;
        told = truly.told;
        within = truly.within;
        since = truly.since;
        before = truly.before;
        made = truly.made;
        called = truly.called;
        truly = truly.truly;
        printed = λ answer same. line.printed answer (truly.is answer same);
      }

-- the lines of a phase are shown at moments that follow one another, and so each that makes such a call is true
pub event_lines-shown : TellsEventCall → EventCallsAnswerTruly → (header : Header)
    (pressure normal : ZoneSize → ℕ → ℕ → Type 0) (w : World) (items : List Item) (hs : TableHistories)
    → MakeInAnyOrder header pressure normal w items hs
    → All (λ item. IsLineOf header (line_of item)) items
    → IsStrictlyIncreasing (map (λ item. item.number) items)
    → LinesShown (Shown header w items hs) items (answers_of header w items hs) (λ lane. []) items
event_lines-shown tells calls-true header pressure normal w items hs makes known up =
    let lanes = lanes_of header.layout items in
    lines-shown header w lanes items hs.events (λ s. s.events) (read_of header w hs.events)
    (Shown header w items hs) (Shown header w items hs) (λ lane a s. refl) (events-shown header w items hs)
    [] items (steps_of lanes hs) (λ lane. []) refl tt
    (lines-among_lanes header items
    (All-weaker (λ item. IsLineOf header (line_of item)) (λ item. IsLaneOf header item.lane) (λ item is. is.0) items
    known)) up
    (λ lane among.
    let at = HasPlace-among lanes lane among in
    let made : MakesActs (Makes header w hs.events lane) (suc at.place) (acts_of lane items) hs.events =
    subst (λ (l : Lane). MakesActs (Makes header w hs.events l) (suc at.place) (acts_of l items) hs.events) at.there
    (makes.event_lines at.place at.below) in
    subst (λ (p : ℕ). AreTrue (read_of header w hs.events lane) (ActIsTrue header w hs.events p lane)
    hs.events [] [] (acts_of lane items) (steps_by hs.events p)) (sym at.number)
    (lane-true header w hs.events lane (suc at.place) makes.complete.events.legal tells calls-true
    (acts_of lane items) made))

pub event_lines-true : (header : Header) (w : World) (items : List Item) (hs : TableHistories)
    (moments : ℕ → Moments EventStep)
    → All (LineShown (Shown header w items hs) items (answers_of header w items hs) moments) items
    → All (λ item. (call : EventCall) → event_call item.lane item.act ≡ Some call
    → EventLineIsTrue header w items hs item call (pass_of (lanes_of header.layout items) item.lane)
    (moments item.number)) items
event_lines-true header w items hs moments shown =
    All-weaker (LineShown (Shown header w items hs) items (answers_of header w items hs) moments)
    (λ item. (call : EventCall) → event_call item.lane item.act ≡ Some call
    → EventLineIsTrue header w items hs item call (pass_of (lanes_of header.layout items) item.lane)
    (moments item.number))
    (line-true header w items hs moments) items shown
