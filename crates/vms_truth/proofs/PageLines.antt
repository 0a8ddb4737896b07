-- What the lines of a phase told of the page counters.
use Rattle.std.proofs.Common.{◌≡◌, ℕ, suc, List, [], ◌++◌, Option, Some, None, refl, sym, ap, subst, ◌∙◌, append-nil}
use Rattle.std.specs.Prelude.{All, map}
use Rattle.std.specs.List.Sorted.{IsStrictlyIncreasing}
use Rattle.std.proofs.lemmas.List.Elements.{All-weaker}
use Rattle.vms_answers.specs.declared.answers.Answer.{Answer}
use Rattle.vms_answers.specs.Common.{answers_of, first_answer, page_told, read_event_act, read_page_act, read_pcpu_act}
use Rattle.vms_answers.specs.Common.{steps_by, steps_of, told}
use Rattle.vms_calls.specs.PageCalls.{IsPageCall}
use Rattle.vms_calls.specs.declared.page_calls.PageAnswer.{PageAnswer}
use Rattle.vms_calls.specs.declared.page_calls.PageCall.{PageCall}
use Rattle.vms_core.specs.Pages.{History, IsLegal}
use Rattle.vms_drift.specs.Moments.{MadeSince}
use Rattle.vms_file_order.specs.Common.{MakeInAnyOrder, pass_of}
use Rattle.vms_file_order.proofs.Common.{HasPlace-among, lines-among_lanes}
use Rattle.vms_history.proofs.Common.{Extends-same}
use Rattle.vms_truth.specs.AnswerTruth.{AnswerIsTrue, CallsAnswerTruly}
use Rattle.vms_truth.specs.Common.{Moments}
use Rattle.vms_truth.specs.PhaseTruth.{LineIsTrue}
use Rattle.vms_near.proofs.Moments.{earlier-legal}
use Rattle.vms_truth.proofs.ReadLanes.{ActTold, AreTrue, acts-told}
use Rattle.vms_truth.proofs.ReadLines.{LineShown, LinesShown, lines-shown}
use Rattle.vms_truth.proofs.WholeCalls.{page-read}
use Rattle.vms_world.specs.Common.{Act, CallSteps, Extends, Header, IsLaneOf, IsLineOf, Item, Lane, MakesActs}
use Rattle.vms_world.specs.Common.{PageSteps, State, Step, TableHistories, ZoneSize, acts_of, event_call, event_facts}
use Rattle.vms_world.specs.Common.{facts_of, lanes_of, line_of, owner_of, page_call, pcpu_call, pcpu_facts}
use Rattle.vms_world.specs.declared.worlds.World.{World}

module _ (header : Header) (base : State) (pressure normal : ZoneSize → ℕ → ℕ → Type 0) (whole : History) where
  -- what the call of an act told is true, and was read so
  pub record CallIsTrue (p : ℕ) (lane : Lane) (done : List Act) (call : PageCall) (when : Moments Step)
      (read : Option Answer) : Type 0 where
    pub steps : List Step
    pub told : PageAnswer
    pub within : Extends whole when.later
    pub before : MakesActs (PageSteps header base pressure normal lane p) p done when.earlier
    pub made : MadeSince (facts_of header base) when.later when.earlier p steps
    pub called : IsPageCall header base pressure normal call (owner_of lane) p when.earlier steps told
    pub truly : AnswerIsTrue header base when.later when.earlier p call told
    pub is : (answer : Answer) → page_told told ≡ Some answer → read ≡ Some answer

  abbrev pub ActIsTrue : ℕ → Lane → List Act → Act → Moments Step → Option Answer → Type 0
  ActIsTrue p lane done a when read =
      (call : PageCall) → page_call lane a ≡ Some call → CallIsTrue p lane done call when read

  abbrev pub read_of : Lane → Act → List Step → Option Answer × List Step
  read_of lane a ks = read_page_act header (owner_of lane) (page_call lane a) ks

  module _ (lane : Lane) (p : ℕ) (legal : IsLegal (facts_of header base) whole)
      (calls-true : CallsAnswerTruly pressure normal) where
    -- the steps of one act are read off whole
    act-told : (done : List Act) (a : Act) (when : Moments Step) (steps : List Step) → Extends whole when.later
        → MakesActs (PageSteps header base pressure normal lane p) p done when.earlier
        → PageSteps header base pressure normal lane p a when.earlier steps
        → MadeSince (facts_of header base) when.later when.earlier p steps
        → ActTold (read_of lane) (ActIsTrue p lane) done a when steps
    act-told done a when steps within before makes has = by (page_call lane a) refl makes
      where
        by : (made : Option PageCall) → page_call lane a ≡ made
            → CallSteps (λ call ks answered. IsPageCall header base pressure normal call (owner_of lane) p when.earlier
            ks answered) made steps → ActTold (read_of lane) (ActIsTrue p lane) done a when steps
        by None is none = record {
          answer = None;
          reads = λ rest.
              ap (λ (made : Option PageCall). read_page_act header (owner_of lane) made (steps ++ rest)) is
              ∙ ap (λ (ks : List Step). let read : Option Answer × List Step = (None, ks ++ rest) in read) none;
          truly = λ call some. absurd (let both : Some call ≡ None = sym some ∙ is in cc);
        }
        by (Some call) is (told_answer, called) = record {
          answer = page_told told_answer;
          reads = λ rest.
              ap (λ (made : Option PageCall). read_page_act header (owner_of lane) made (steps ++ rest)) is
              ∙ ap (told page_told)
              (page-read pressure normal header base call (owner_of lane) p when.later when.earlier steps told_answer
              called has rest);
          truly = λ other same.
              let one : call ≡ other = (let both : Some call ≡ Some other = sym is ∙ same in cc) in
              subst (λ (c : PageCall). CallIsTrue p lane done c when (page_told told_answer)) one (record {
                steps = steps;
                told = told_answer;
                within = within;
                before = before;
                made = has;
                called = called;
                truly = calls-true header base call (owner_of lane) p when.later when.earlier steps told_answer called
                    has;
                is = λ answer told_so. told_so;
              });
        }

    pub lane-true : (acts : List Act)
        → MakesActs (PageSteps header base pressure normal lane p) p acts whole
        → AreTrue (read_of lane) (ActIsTrue p lane) whole [] [] acts (steps_by whole p)
    lane-true acts made =
        (acts-told (read_of lane) (ActIsTrue p lane) (PageSteps header base pressure normal lane p) p whole
        (λ mine. Unit {0}) tt (λ a h steps makes mine holds. tt)
        (λ done a later earlier steps within since before makes mine holds.
        act-told done a (record { earlier = earlier; later = later }) steps within before makes (record {
          legal = earlier-legal (facts_of header base) whole later within legal;
          extends = since;
          made = mine;
        }))
        acts whole (Extends-same whole) made).truly (steps_by whole p) [] (sym (append-nil (steps_by whole p)))

module _ (header : Header) (pressure normal : ZoneSize → ℕ → ℕ → Type 0) (w : World) (items : List Item)
    (hs : TableHistories) where
  abbrev lanes : List Lane
  lanes = lanes_of header.layout items

  abbrev pub Shown : Lane → List Act → Act → Moments Step → Option Answer → Type 0
  Shown lane done a when read =
      ActIsTrue header w.pages pressure normal hs.pages (pass_of lanes lane) lane done a when read

  -- what is read of the page counters is answered, before what is read of other tables
  first-shown : (lane : Lane) (done : List Act) (a : Act) (when : Moments Step) (read others : Option Answer)
      → Shown lane done a when read → Shown lane done a when (first_answer read others)
  first-shown lane done a when read others shown call is =
      let line = shown call is in
      record {
        steps = line.steps;
        told = line.told;
        within = line.within;
        before = line.before;
        made = line.made;
        called = line.called;
        truly = line.truly;
        is = λ answer same. ap (λ (x : Option Answer). first_answer x others) (line.is answer same);
      }

  pub line-true : (moments : ℕ → Moments Step) (item : Item)
      → LineShown Shown items (answers_of header w items hs) moments item → (call : PageCall)
      → page_call item.lane item.act ≡ Some call
      → LineIsTrue header pressure normal w items hs item call (pass_of lanes item.lane) (moments item.number)
  line-true moments item line call is =
      let truly = line.shown call is in
      record {
        steps = truly.steps;
        told = truly.told;
        within = truly.within;
        before = truly.before;
        made = truly.made;
        called = truly.called;
        truly = truly.truly;
        printed = λ answer same. line.printed answer (truly.is answer same);
      }

-- the lines of a phase are shown at moments that follow one another, and so each that makes such a call is true
pub page_lines-shown : (pressure normal : ZoneSize → ℕ → ℕ → Type 0) → CallsAnswerTruly pressure normal
    → (header : Header) (w : World) (items : List Item) (hs : TableHistories)
    → MakeInAnyOrder header pressure normal w items hs → All (λ item. IsLineOf header (line_of item)) items
    → IsStrictlyIncreasing (map (λ item. item.number) items)
    → LinesShown (Shown header pressure normal w items hs) items (answers_of header w items hs) (λ lane. []) items
page_lines-shown pressure normal calls-true header w items hs makes known up =
    let lanes = lanes_of header.layout items in
    let base = w.pages in
    lines-shown header w lanes items hs.pages (λ s. s.pages) (read_of header base pressure normal hs.pages)
    (Shown header pressure normal w items hs) (Shown header pressure normal w items hs) (λ lane a s. refl)
    (λ lane done a s when shown. first-shown header pressure normal w items hs lane done a when
    (read_of header base pressure normal hs.pages lane a s.pages).0
    (first_answer (read_event_act (event_facts header w) (event_call lane a) s.events).0
    (read_pcpu_act (pcpu_facts header w) (pcpu_call lane a) s.counters).0) shown)
    [] items (steps_of lanes hs) (λ lane. []) refl tt
    (lines-among_lanes header items
    (All-weaker (λ item. IsLineOf header (line_of item)) (λ item. IsLaneOf header item.lane) (λ item is. is.0) items
    known)) up
    (λ lane among.
    let at = HasPlace-among lanes lane among in
    let made : MakesActs (PageSteps header base pressure normal lane (suc at.place)) (suc at.place)
    (acts_of lane items) hs.pages =
    subst (λ (l : Lane). MakesActs (PageSteps header base pressure normal l (suc at.place)) (suc at.place)
    (acts_of l items) hs.pages) at.there (makes.page_lines at.place at.below) in
    subst (λ (p : ℕ). AreTrue (read_of header base pressure normal hs.pages lane)
    (ActIsTrue header base pressure normal hs.pages p lane) hs.pages [] [] (acts_of lane items)
    (steps_by hs.pages p)) (sym at.number)
    (lane-true header base pressure normal hs.pages lane (suc at.place) makes.complete.pages.legal calls-true
    (acts_of lane items) made))

pub page_lines-true : (header : Header) (pressure normal : ZoneSize → ℕ → ℕ → Type 0) (w : World) (items : List Item)
    (hs : TableHistories) (moments : ℕ → Moments Step)
    → All (LineShown (Shown header pressure normal w items hs) items (answers_of header w items hs) moments) items
    → All (λ item. (call : PageCall) → page_call item.lane item.act ≡ Some call
    → LineIsTrue header pressure normal w items hs item call (pass_of (lanes_of header.layout items) item.lane)
    (moments item.number)) items
page_lines-true header pressure normal w items hs moments shown =
    All-weaker (LineShown (Shown header pressure normal w items hs) items (answers_of header w items hs) moments)
    (λ item. (call : PageCall) → page_call item.lane item.act ≡ Some call
    → LineIsTrue header pressure normal w items hs item call (pass_of (lanes_of header.layout items) item.lane)
    (moments item.number))
    (line-true header pressure normal w items hs moments) items shown
