-- For other crates too: the steps of an act tell its answer, by the laws of the calls.
use Rattle.std.proofs.Common.{◌≡◌, ◌≢◌, ℕ, ℤ, true, List, [], ◌++◌, Option, Some, None, refl, ap, ◌∙◌}
use Rattle.vms_world.specs.Common.{IsChange, TellsChange, Header, CounterId, CpuId, Mode, ZoneSize, State, Step}
use Rattle.vms_world.specs.Common.{HasMade, facts_of, EventAnswer, Total as EventTotal, EventCall, EventFacts}
use Rattle.vms_world.specs.Common.{EventStep, IsEventCall, read_event_call, PcpuAnswer, PcpuCall, PcpuFacts, PcpuStep}
use Rattle.vms_world.specs.Common.{IsPcpuCall, Act, Lane, Cpu, Control, event_call, page_call, pcpu_call, event_facts}
use Rattle.vms_world.specs.Common.{pcpu_facts, owner_of, read_pcpu_call}
use Rattle.vms_calls.specs.PageCalls.{IsPageCall, asks_rules, page_answered, read_page_call}
use Rattle.vms_calls.specs.declared.page_calls.PageAnswer.TheVariants as answer
use Rattle.vms_calls.specs.declared.page_calls.PageAnswer.{PageAnswer}
use Rattle.vms_calls.specs.declared.page_calls.PageCall.{PageCall}
use Rattle.vms_calls.specs.declared.page_calls.PageCall.TheVariants.{Bury, Change}
use Rattle.vms_calls.proofs.PageCalls.{page-tells}
use Rattle.vms_core.specs.Pages as pages
use Rattle.vms_world.proofs.ActCalls.{call-no_page_call}
use Rattle.vms_world.proofs.Common.{events-no_burial}
use Rattle.vms_world.proofs.EventActs.{events-no_page_call}
use Rattle.vms_event_core.specs.declared.call_values.EventAnswer.TheVariants.{Done}
use Rattle.vms_pcpu_core.proofs.Common.{tells-call}
use Rattle.vms_text.specs.declared.acts.Act.TheVariants.{Dead}
use Rattle.vms_world.specs.declared.worlds.World.{World}
use Rattle.vms_answers.specs.declared.answers.Answer.{Answer}
use Rattle.vms_answers.specs.Common.{LaneSteps, Tell, event_told, first_answer, joined, on_counters, on_events}
use Rattle.vms_answers.specs.Common.{on_pages, page_told, read_event_act, read_page_act, pcpu_told, read_act}
use Rattle.vms_answers.specs.Common.{read_pcpu_act, then_steps, told}
use Rattle.vms_answers.proofs.OpenAnswers.{LaneSteps-same}

-- the law of the calls on event counters: their steps tell the answer and where they end, whatever follows them
abbrev pub TellsEventCall : Type 0
TellsEventCall = (facts : EventFacts) (call : EventCall) (steps rest : List EventStep) (answer : EventAnswer)
    → IsEventCall facts call steps answer → read_event_call facts call (steps ++ rest) ≡ (answer, rest)

-- steps of a line that makes none in the other tables
pub on_pages-alone : (steps : LaneSteps) → steps.events ≡ [] → steps.counters ≡ [] → steps ≡ on_pages steps.pages
on_pages-alone steps no_events no_counters = LaneSteps-same steps (on_pages steps.pages) refl no_events no_counters

pub on_counters-alone : (steps : LaneSteps) → steps.pages ≡ [] → steps.events ≡ []
    → steps ≡ on_counters steps.counters
on_counters-alone steps no_pages no_events = LaneSteps-same steps (on_counters steps.counters) no_pages no_events refl

-- there is no call where there is none
some-none : {C : Type 0} → (made : Option C) (call : C) → made ≡ Some call → made ≡ None → ⊥
some-none (Some other) call some none = cc
some-none None call some none = cc

-- an act that makes a call on the page counters and buries no CPU is no burial
pages-no_burial : (lane : Lane) (a : Act) (call : PageCall) → page_call lane a ≡ Some call
    → ((c : CpuId) → call ≢ Bury c) → (c : CpuId) → a ≢ Dead c
pages-no_burial (Cpu d) (Dead e) call is no_burial c same = absurd cc
pages-no_burial Control (Dead e) call is no_burial c same = no_burial e cc
pages-no_burial _ _ call is no_burial c same = cc

-- one that makes a call on event counters makes none on the percpu ones, unless it buries a CPU
pub events-no_pcpu_call : (lane : Lane) (a : Act) (call : EventCall) → event_call lane a ≡ Some call
    → ((c : CpuId) → a ≢ Dead c) → pcpu_call lane a ≡ None
events-no_pcpu_call (Cpu d) (Dead c) call is no_burial = absurd (no_burial c refl)
events-no_pcpu_call Control (Dead c) call is no_burial = absurd (no_burial c refl)
events-no_pcpu_call _ _ call is no_burial = cc

-- and one of a CPU's lane that makes a call on percpu counters makes none on the event counters
counters-no_events : (c : CpuId) (a : Act) (call : PcpuCall) → pcpu_call (Cpu c) a ≡ Some call
    → event_call (Cpu c) a ≡ None
counters-no_events c a call is = by (event_call (Cpu c) a) refl
  where
    by : (made : Option EventCall) → event_call (Cpu c) a ≡ made → event_call (Cpu c) a ≡ None
    by None on = on
    by (Some other) on =
        absurd (some-none (pcpu_call (Cpu c) a) call is
        (events-no_pcpu_call (Cpu c) a other on (events-no_burial c a other on)))

-- the control lane makes one on the percpu counters by burials alone
control-no_counters : (a : Act) → ((c : CpuId) → a ≢ Dead c) → pcpu_call Control a ≡ None
control-no_counters (Dead c) no_burial = absurd (no_burial c refl)
control-no_counters _ no_burial = refl

module _ (header : Header) (w : World) where
  -- an act that makes a call on the page counters and buries no CPU makes none in the other tables
  pub pages-no_events : (lane : Lane) (a : Act) (call : PageCall) → page_call lane a ≡ Some call
      → ((c : CpuId) → call ≢ Bury c) → event_call lane a ≡ None
  pages-no_events lane a call is no_burial = by (event_call lane a) refl
    where
      by : (made : Option EventCall) → event_call lane a ≡ made → event_call lane a ≡ None
      by None on = on
      by (Some other) on =
          absurd (some-none (page_call lane a) call is
          (events-no_page_call lane a other on (pages-no_burial lane a call is no_burial)))

  pub pages-no_counters : (lane : Lane) (a : Act) (call : PageCall) → page_call lane a ≡ Some call
      → ((c : CpuId) → call ≢ Bury c) → pcpu_call lane a ≡ None
  pages-no_counters Control a call is no_burial = control-no_counters a (pages-no_burial Control a call is no_burial)
  pages-no_counters (Cpu d) a call is no_burial = by (pcpu_call (Cpu d) a) refl
    where
      by : (made : Option PcpuCall) → pcpu_call (Cpu d) a ≡ made → pcpu_call (Cpu d) a ≡ None
      by None on = on
      by (Some other) on = absurd (some-none (page_call (Cpu d) a) call is (call-no_page_call d other a on))

  -- steps off which the answer of an act's call is read, whatever follows them, tell that of the act, unless the act
  -- buries a CPU and so makes calls on the other tables too
  pub Tell-page_read : (lane : Lane) (a : Act) (call : PageCall) (steps : List Step) (answer : PageAnswer)
      → page_call lane a ≡ Some call → ((c : CpuId) → call ≢ Bury c)
      → ((more : List Step) → read_page_call header call (owner_of lane) (steps ++ more) ≡ (answer, more))
      → Tell header w lane a (on_pages steps) (page_told answer)
  Tell-page_read lane a call steps answer is no_burial reads rest =
      let owner = owner_of lane in
      ap (λ (makes : Option PageCall). joined (read_page_act header owner makes (steps ++ rest.pages))
      (read_event_act (event_facts header w) (event_call lane a) rest.events)
      (read_pcpu_act (pcpu_facts header w) (pcpu_call lane a) rest.counters)) is
      ∙ ap (λ (read : PageAnswer × List Step). joined (told page_told read)
      (read_event_act (event_facts header w) (event_call lane a) rest.events)
      (read_pcpu_act (pcpu_facts header w) (pcpu_call lane a) rest.counters)) (reads rest.pages)
      ∙ ap (λ (makes : Option EventCall). joined (page_told answer, rest.pages)
      (read_event_act (event_facts header w) makes rest.events)
      (read_pcpu_act (pcpu_facts header w) (pcpu_call lane a) rest.counters)) (pages-no_events lane a call is no_burial)
      ∙ ap (λ (makes : Option PcpuCall). joined (page_told answer, rest.pages) (None, rest.events)
      (read_pcpu_act (pcpu_facts header w) makes rest.counters)) (pages-no_counters lane a call is no_burial)
      ∙ ap (λ (first : Option Answer). (first, rest)) (first_answer-none (page_told answer))
    where
      first_answer-none : (x : Option Answer) → first_answer x None ≡ x
      first_answer-none (Some x) = refl
      first_answer-none None = refl

  -- the steps of the call of an act tell what the call answers
  pub Tell-pages : (pressure normal : ZoneSize → ℕ → ℕ → Type 0) (base : State) (p : ℕ) (later h : pages.History)
      (lane : Lane) (a : Act) (call : PageCall) (steps : List Step) (answer : PageAnswer) → page_call lane a ≡ Some call
      → ((c : CpuId) → call ≢ Bury c)
      → IsPageCall header base pressure normal call (owner_of lane) p h steps answer
      → (asks_rules call ≡ true → HasMade (facts_of header base) later h p steps)
      → Tell header w lane a (on_pages steps) (page_told answer)
  Tell-pages pressure normal base p later h lane a call steps answer is no_burial call_is made =
      Tell-page_read lane a call steps answer is no_burial
      (page-tells pressure normal header base call (owner_of lane) p later h steps answer call_is made)

  -- those of any change tell that an act that makes a change answers nothing
  pub Tell-changes : TellsChange → (c : CpuId) (a : Act) (k other : CounterId) (delta amount : ℤ) (how mode : Mode)
      (steps : List Step) → page_call (Cpu c) a ≡ Some (Change k delta how)
      → IsChange header.layout c other amount mode steps → Tell header w (Cpu c) a (on_pages steps) None
  Tell-changes tells c a k other delta amount how mode steps is change =
      Tell-page_read (Cpu c) a (Change k delta how) steps answer.Done is (λ d same. absurd cc)
      (λ more. ap (page_answered (λ (end : Unit {0}). answer.Done))
      (tells header.layout c other amount mode steps change more))

  pub Tell-events : TellsEventCall → (lane : Lane) (a : Act) (call : EventCall) (steps : List EventStep)
      (answer : EventAnswer) → event_call lane a ≡ Some call → ((c : CpuId) → a ≢ Dead c)
      → IsEventCall (event_facts header w) call steps answer
      → Tell header w lane a (on_events steps) (event_told answer)
  Tell-events reads lane a call steps answer is no_burial made rest =
      let facts : EventFacts = event_facts header w in
      let in_events : read_event_act facts (event_call lane a) (steps ++ rest.events)
      ≡ (event_told answer, rest.events) =
      ap (λ (makes : Option EventCall). read_event_act facts makes (steps ++ rest.events)) is
      ∙ ap (λ (read : EventAnswer × List EventStep). told event_told read)
      (reads facts call steps rest.events answer made) in
      ap (λ (makes : Option PageCall). joined (read_page_act header (owner_of lane) makes rest.pages)
      (read_event_act facts (event_call lane a) (steps ++ rest.events))
      (read_pcpu_act (pcpu_facts header w) (pcpu_call lane a) rest.counters))
      (events-no_page_call lane a call is no_burial)
      ∙ ap (λ (read : Option Answer × List EventStep). joined (None, rest.pages) read
      (read_pcpu_act (pcpu_facts header w) (pcpu_call lane a) rest.counters)) in_events
      ∙ ap (λ (makes : Option PcpuCall). joined (None, rest.pages) (event_told answer, rest.events)
      (read_pcpu_act (pcpu_facts header w) makes rest.counters)) (events-no_pcpu_call lane a call is no_burial)
      ∙ ap (λ (first : Option Answer). (first, rest)) (by answer)
    where
      by : (x : EventAnswer) → first_answer (event_told x) None ≡ event_told x
      by Done = refl
      by (EventTotal sum) = refl

  -- what is read of an act of a CPU's lane that makes a call on percpu counters
  pub read-by_call : (c : CpuId) (call : PcpuCall) (a : Act) → pcpu_call (Cpu c) a ≡ Some call → (steps : LaneSteps)
      → read_act header w (Cpu c) a steps
      ≡ joined (None, steps.pages) (None, steps.events) (read_pcpu_act (pcpu_facts header w) (Some call) steps.counters)
  read-by_call c call a is steps =
      let facts : PcpuFacts = pcpu_facts header w in
      ap (λ (makes : Option PageCall). joined (read_page_act header (Some c) makes steps.pages)
      (read_event_act (event_facts header w) (event_call (Cpu c) a) steps.events)
      (read_pcpu_act facts (pcpu_call (Cpu c) a) steps.counters)) (call-no_page_call c call a is)
      ∙ ap (λ (makes : Option EventCall). joined (None, steps.pages)
      (read_event_act (event_facts header w) makes steps.events)
      (read_pcpu_act facts (pcpu_call (Cpu c) a) steps.counters)) (counters-no_events c a call is)
      ∙ ap (λ (makes : Option PcpuCall). joined (None, steps.pages) (None, steps.events)
      (read_pcpu_act facts makes steps.counters)) is

  -- steps off which the call's answer is read, whatever follows them, tell that of the act
  pub Tell-read : (c : CpuId) (call : PcpuCall) (a : Act) → pcpu_call (Cpu c) a ≡ Some call → (steps : List PcpuStep)
      (answer : PcpuAnswer)
      → ((more : List PcpuStep) → read_pcpu_call (pcpu_facts header w) call (steps ++ more) ≡ (answer, more))
      → Tell header w (Cpu c) a (on_counters steps) (pcpu_told answer)
  Tell-read c call a is steps answer reads rest =
      read-by_call c call a is (then_steps (on_counters steps) rest)
      ∙ ap (λ (read : PcpuAnswer × List PcpuStep). joined (None, rest.pages) (None, rest.events)
      (told pcpu_told read)) (reads rest.counters)

  -- those of the call do, by whichever facts it was made, where it is read as by these
  pub Tell-alike : (c own : CpuId) (call : PcpuCall) (a : Act) → pcpu_call (Cpu c) a ≡ Some call → (facts : PcpuFacts)
      (steps : List PcpuStep) (answer : PcpuAnswer)
      → ((more : List PcpuStep) → read_pcpu_call (pcpu_facts header w) call more ≡ read_pcpu_call facts call more)
      → IsPcpuCall facts (Some own) call steps answer
      → Tell header w (Cpu c) a (on_counters steps) (pcpu_told answer)
  Tell-alike c own call a is facts steps answer alike made =
      Tell-read c call a is steps answer
      (λ more. alike (steps ++ more) ∙ tells-call facts (Some own) call steps more answer made)

  pub Tell-call : (c : CpuId) (call : PcpuCall) (a : Act) → pcpu_call (Cpu c) a ≡ Some call → (steps : List PcpuStep)
      (answer : PcpuAnswer) → IsPcpuCall (pcpu_facts header w) (Some c) call steps answer
      → Tell header w (Cpu c) a (on_counters steps) (pcpu_told answer)
  Tell-call c call a is steps answer made =
      Tell-alike c c call a is (pcpu_facts header w) steps answer (λ more. refl) made
