-- What is printed for the lines of a phase tells what is true.
use Rattle.std.specs.Prelude.{◌≡◌, ℕ, nat_eq, List, [], ◌∷◌, All, map, if◌then◌else◌, Option, Some, None}
use Rattle.std.specs.List.Sorted.{IsStrictlyIncreasing}
use Rattle.vms_answers.specs.Common.{NumberedAnswer, answers_of, event_told, page_told, pcpu_told}
use Rattle.vms_answers.specs.declared.answers.Answer.{Answer}
use Rattle.vms_calls.specs.PageCalls.{IsPageCall}
use Rattle.vms_calls.specs.declared.page_calls.PageAnswer.{PageAnswer}
use Rattle.vms_calls.specs.declared.page_calls.PageCall.{PageCall}
use Rattle.vms_drift.specs.Moments.{MadeSince}
use Rattle.vms_event_core.specs.Events as events
use Rattle.vms_file_order.specs.Common.{MakeInAnyOrder, pass_of, pcpu_makes}
use Rattle.vms_pcpu_core.specs.MadeBetween.{MadeSteps}
use Rattle.vms_truth.specs.AnswerTruth.{AnswerIsTrue}
use Rattle.vms_truth.specs.EventTruth.{EventAnswerIsTrue}
use Rattle.vms_truth.specs.LineMoments.{FollowInLanes, Moments, lines_above}
use Rattle.vms_truth.specs.PcpuTruth.{PcpuAnswerIsTrue}
use Rattle.vms_truth.specs.PhaseFlight.{AlwaysFlyLittle}
use Rattle.vms_truth.specs.PhaseTransit.{AlwaysCarryLittle}
use Rattle.vms_world.specs.Common.{Cpu, CpuId, EventAnswer, EventCall, EventStep, EventSteps, Extends, Header}
use Rattle.vms_world.specs.Common.{IsEventCall, IsLineOf, IsPcpuCall, Item, MakesActs, PageSteps, PcpuAnswer, PcpuCall}
use Rattle.vms_world.specs.Common.{PcpuStep, Step, TableHistories, ZoneSize, acts_of, after, event_call, event_facts}
use Rattle.vms_world.specs.Common.{facts_of, lanes_of, line_of, own, owner_of, page_call, pcpu_call, pcpu_facts}
use Rattle.vms_world.specs.declared.worlds.World.{World}

-- the answer of the line of a number, if it has one
abbrev pub answer_at : ℕ → List NumberedAnswer → Option Answer
answer_at n [] = None
answer_at n (first ∷ answers) = if nat_eq first.number n then Some first.answer else answer_at n answers

-- a line whose act makes a call on the page counters, with its two moments. At the earlier one caller p, the pass of
-- the line's lane, had made the lane's lines above this one and nothing else; by the later one it had made the steps of
-- the call besides. What these told is true of what stood in between, and where a line answers what its call told, that
-- is the answer of this line.
pub record LineIsTrue (header : Header) (pressure normal : ZoneSize → ℕ → ℕ → Type 0) (w : World) (items : List Item)
    (hs : TableHistories) (item : Item) (call : PageCall) (p : ℕ) (when : Moments Step) : Type 0 where
  pub steps : List Step
  pub told : PageAnswer
  pub within : Extends hs.pages when.later
  pub before : MakesActs (PageSteps header w.pages pressure normal item.lane p) p
      (acts_of item.lane (lines_above item.number items)) when.earlier
  pub made : MadeSince (facts_of header w.pages) when.later when.earlier p steps
  pub called : IsPageCall header w.pages pressure normal call (owner_of item.lane) p when.earlier steps told
  pub truly : AnswerIsTrue header w.pages when.later when.earlier p call told
  pub printed : (answer : Answer) → page_told told ≡ Some answer →
      answer_at item.number (answers_of header w items hs) ≡ Some answer

-- the same of a line of a CPU's lane whose act makes a call on the percpu counters
pub record PcpuLineIsTrue (header : Header) (w : World) (items : List Item) (hs : TableHistories) (item : Item)
    (call : PcpuCall) (p : ℕ) (when : Moments PcpuStep) : Type 0 where
  pub steps : List PcpuStep
  pub told : PcpuAnswer
  pub within : Extends hs.counters when.later
  pub before : MakesActs (pcpu_makes (pcpu_facts header w) item.lane p) p
      (acts_of item.lane (lines_above item.number items)) when.earlier
  pub made : MadeSteps (pcpu_facts header w) when.earlier when.later p steps
  pub called : IsPcpuCall (pcpu_facts header w) (owner_of item.lane) call steps told
  pub truly : PcpuAnswerIsTrue (pcpu_facts header w) when.later when.earlier p call told
  pub printed : (answer : Answer) → pcpu_told told ≡ Some answer →
      answer_at item.number (answers_of header w items hs) ≡ Some answer

-- the same of a line of any lane whose act makes a call on the event counters
pub record EventLineIsTrue (header : Header) (w : World) (items : List Item) (hs : TableHistories) (item : Item)
    (call : EventCall) (p : ℕ) (when : Moments EventStep) : Type 0 where
  pub steps : List EventStep
  pub told : EventAnswer
  pub within : Extends hs.events when.later
  pub since : Extends when.later when.earlier
  pub before : MakesActs (λ a (h : events.History) ks. EventSteps (event_facts header w) item.lane a ks) p
      (acts_of item.lane (lines_above item.number items)) when.earlier
  pub made : own when.later p ≡ after p steps (own when.earlier p)
  pub called : IsEventCall (event_facts header w) call steps told
  pub truly : EventAnswerIsTrue (event_facts header w) when.later when.earlier p call told
  pub printed : (answer : Answer) → event_told told ≡ Some answer →
      answer_at item.number (answers_of header w items hs) ≡ Some answer

-- what the lines of a phase print of the counters is true, and meanwhile callers carry little of the page counters and
-- have little in flight. In each of the three tables a line has two moments, by its number, and those of a lane's lines
-- follow one another.
pub record LinesAreTrue (header : Header) (pressure normal : ZoneSize → ℕ → ℕ → Type 0) (w : World) (items : List Item)
    (hs : TableHistories) : Type 0 where
  pub page_moments : ℕ → Moments Step
  pub pages : All (λ item. (call : PageCall) → page_call item.lane item.act ≡ Some call →
      LineIsTrue header pressure normal w items hs item call (pass_of (lanes_of header.layout items) item.lane)
      (page_moments item.number)) items
  pub pages_follow : FollowInLanes page_moments items
  pub counter_moments : ℕ → Moments PcpuStep
  pub counters : All (λ item. (c : CpuId) → item.lane ≡ Cpu c → (call : PcpuCall) →
      pcpu_call item.lane item.act ≡ Some call → PcpuLineIsTrue header w items hs item call
      (pass_of (lanes_of header.layout items) item.lane) (counter_moments item.number)) items
  pub counters_follow : FollowInLanes counter_moments items
  pub event_moments : ℕ → Moments EventStep
  pub events : All (λ item. (call : EventCall) → event_call item.lane item.act ≡ Some call →
      EventLineIsTrue header w items hs item call (pass_of (lanes_of header.layout items) item.lane)
      (event_moments item.number)) items
  pub events_follow : FollowInLanes event_moments items
  pub carried : AlwaysCarryLittle header items hs
  pub in_flight : AlwaysFlyLittle header w items hs

-- so are the lines of every phase, in whatever order the steps of its lanes were made
abbrev pub PhasesAnswerTruly : (pressure normal : ZoneSize → ℕ → ℕ → Type 0) → Type 0
PhasesAnswerTruly pressure normal = (header : Header) (w : World) (items : List Item) (hs : TableHistories) →
    MakeInAnyOrder header pressure normal w items hs → All (λ item. IsLineOf header (line_of item)) items →
    IsStrictlyIncreasing (map (λ item. item.number) items) → LinesAreTrue header pressure normal w items hs
